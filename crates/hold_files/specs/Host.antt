-- untold reads writes says: what is told of files and bytes that no proof can see: no content, nothing said, and
--   one count each of failed reads, of failed writes and of failed sayings, the same for every name.
-- told_of_host: what HostFiles tells.
use Rattle.std.specs.Prelude.{ℕ, None}
use Rattle.hold_files.specs.declared.host.HostFiles.{HostFiles}
use Rattle.hold_files.specs.Told.{Told}

abbrev pub untold : ℕ → ℕ → ℕ → Told
untold reads writes says = record {
  content = λ _. None;
  said = None;
  read_faults = λ _. reads;
  write_faults = λ _. writes;
  say_faults = says;
}

-- what the adapter tells
abbrev pub told_of_host : {R A B C D : Type 0} → HostFiles R A B C D → Told
told_of_host h = untold h.read_faults h.write_faults h.say_faults
