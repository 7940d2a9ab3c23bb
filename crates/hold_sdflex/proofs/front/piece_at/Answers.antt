use Rattle.std.proofs.Common.{◌≡◌, ◌==◌, false, rules}
use Rattle.std.specs.Prelude.{option_map}
use Rattle.hold_text.specs.Blanks.{quote}
use Rattle.hold_sdflex.specs.Front.{opening, closing, colon_sign}
use Rattle.hold_sdflex.specs.inner.Waiting.{shown_front}
use Rattle.hold_sdflex.proofs.Counting.{piece_atom}
use Rattle.hold_sdflex.proofs.front.piece_at.Goals as goal

pub returns-in_default : goal.returns-in_default
returns-in_default c =
    let opened : (c.args.first == opening) ≡ false = search rules in
    let closed : (c.args.first == closing) ≡ false = search rules in
    let divided : (c.args.first == colon_sign) ≡ false = search rules in
    let quoted : (c.args.first == quote) ≡ false = search rules in
    piece_atom (option_map shown_front c.atom_after.result) c.args.first c.args.rest.now opened closed divided quoted c.atom_after.ensures
