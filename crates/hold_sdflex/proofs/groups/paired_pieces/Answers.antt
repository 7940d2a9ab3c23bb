use Rattle.std.proofs.Common.{◌≡◌, ap, length, Some, arith}
use Rattle.std.proofs.lemmas.List.{length-map}
use Rattle.hold_sdflex.specs.Pieces.{pieces_of_text}
use Rattle.hold_sdflex.specs.inner.Waiting.{shown_piece, shown}
use Rattle.hold_sdflex.proofs.OneGroup.{pieces_fit}
use Rattle.hold_sdflex.proofs.groups.paired_pieces.Goals as goal

-- there are no more pieces than bytes
pub pair-requires : goal.pair-requires
pair-requires c =
    let found : Some (shown c.in-Some.pieces.items) ≡ pieces_of_text c.args.text.now = rw c.in-Some.is at c.in_ok-pieces.ensures in
    omega (arith, length-map c.in-Some.pieces.items shown_piece, pieces_fit c.args.text.now (shown c.in-Some.pieces.items) found, ap length c.deref_mut.ensures.value)
