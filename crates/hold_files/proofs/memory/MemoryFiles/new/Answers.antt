use Rattle.std.proofs.Common.{◌≡◌, ℕ, List, ◌∙◌, ap, refl}
use Rattle.hold_files.specs.Memory.{entry_of}
use Rattle.hold_files.specs.inner.Entries.{entry_with_outputs}
use Rattle.hold_files.specs.FirstContent.{is_listed_name, text_in}
use Rattle.hold_files.proofs.Additions.{first_at, no_read_fault, no_write_fault, room_at}
use Rattle.hold_files.proofs.memory.MemoryFiles.new.Goals as goal

pub returns-clause-faults : goal.returns-clause-faults
returns-clause-faults c =
    let first : (q : List ℕ) → entry_of c.add_outputs.new.entries q ≡ first_at (is_listed_name q c.args.outputs.items) (text_in q c.args.texts.items) c.args.room =
    λ q. c.in_ok-add_outputs.ensures q ∙ ap (entry_with_outputs q c.args.outputs.items c.args.room) (c.in_ok-entries.ensures q) in
    record {
      reads = λ q. no_read_fault _ (text_in q c.args.texts.items) c.args.room _ (first q);
      writes = λ q. no_write_fault _ (text_in q c.args.texts.items) c.args.room _ (first q);
      says = refl;
    }

pub returns-clause-room : goal.returns-clause-room
returns-clause-room c =
    let first : (q : List ℕ) → entry_of c.add_outputs.new.entries q ≡ first_at (is_listed_name q c.args.outputs.items) (text_in q c.args.texts.items) c.args.room =
    λ q. c.in_ok-add_outputs.ensures q ∙ ap (entry_with_outputs q c.args.outputs.items c.args.room) (c.in_ok-entries.ensures q) in
    record {
      outputs = λ q. room_at _ (text_in q c.args.texts.items) _ _ (first q);
      said = ap (λ b. b.room) c.in_ok-new.ensures;
    }
