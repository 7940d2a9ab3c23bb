-- What a scratch has room for.
use Rattle.std.proofs.Common.{◌≡◌, ℕ, ◌*◌, List, length, ap, ◌∙◌}
use Rattle.hold_base.specs.declared.number.PinNo.{PinNo}
use Rattle.hold_graph.specs.declared.problem.Problem.{Problem}
use Rattle.hold_proof.specs.Room.{room_of}

pub room-is : (problem : Problem) (sites launches captures : List PinNo) (vars pins : ℕ) → vars ≡ length sites * length problem.costs → pins ≡ problem.graph.pins → launches ≡ problem.graph.launches →
    captures ≡ problem.graph.captures → record { vars = vars; pins = pins; launches = launches; captures = captures } ≡ room_of problem sites
room-is problem sites launches captures vars pins vars_are pins_are launches_are captures_are =
    ap (λ (n : ℕ). record { vars = n; pins = pins; launches = launches; captures = captures }) vars_are
    ∙ ap (λ (n : ℕ). record { vars = length sites * length problem.costs; pins = n; launches = launches; captures = captures }) pins_are
    ∙ ap (λ (l : List PinNo). record { vars = length sites * length problem.costs; pins = problem.graph.pins; launches = l; captures = captures }) launches_are
    ∙ ap (λ (l : List PinNo). record { vars = length sites * length problem.costs; pins = problem.graph.pins; launches = problem.graph.launches; captures = l }) captures_are
