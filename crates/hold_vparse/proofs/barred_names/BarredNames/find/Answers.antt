use Rattle.std.proofs.Common.{ℕ, List, ap, ◌∙◌, bytes_eq}
use Rattle.std.specs.Prelude.{Vec}
use Rattle.std.specs.declared.alloc.Global.{Global}
use Rattle.std.specs.Map.{lookup}
use Rattle.hold_vparse.specs.inner.Barred.{found_or_none}
use Rattle.hold_vparse.proofs.barred_names.BarredNames.find.Goals as goal

pub returns-in-Some : goal.returns-in-Some
returns-in-Some c =
    ap found_or_none c.in-Some.ensures.value
    ∙ ap (λ (n : List ℕ). found_or_none (lookup (λ (k : Vec ℕ Global). bytes_eq n k.items) c.args.self.now.roles.entries)) c.bytes.ensures
