-- spec_in ts: the atom that names the pin of a check, within the group of these tokens: that of an edge, or of the last item of a
--     condition.
use Rattle.std.specs.Prelude.{List, Option, if◌then◌else◌}
use Rattle.hold_sdflex.specs.Items.{Word, Token, items_in, behind}
use Rattle.hold_sdf.specs.Keywords.{is_word, cond_words}
use Rattle.hold_sdf.specs.Shapes.{keyword, last_of, edge_pin, spec_of}

abbrev pub spec_in : List Token → Option Word
spec_in ts = if is_word cond_words (keyword (items_in ts)) then spec_of (last_of (behind (items_in ts))) else edge_pin (items_in ts)
