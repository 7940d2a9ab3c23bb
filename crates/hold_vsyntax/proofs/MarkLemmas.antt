-- A word of the grammar is found by its row in a table.
use Rattle.std.proofs.Common.{◌≡◌, ℕ, List, Bool, true, false, cond, refl, bytes_eq}
use Rattle.std.specs.Prelude.{Some, None, codes}
use Rattle.std.specs.Option.{option_and_then}
use Rattle.hold_base.proofs.Bytes.{bytes_eq-sym}
use Rattle.hold_vsyntax.specs.declared.mark.Mark.TheVariants.{Module, EndModule, Input, Output, Wire, Assign}
use Rattle.hold_vsyntax.specs.Symbols.{word_mark}
use Rattle.hold_vsyntax.specs.inner.Symbols.{mark_words, mark_of_row, row_mark}

-- the first test that is true tells the row, and the row tells the mark
by_tests : (a b c d e f : Bool)
    → option_and_then mark_of_row (cond a (Some 0) (cond b (Some 1) (cond c (Some 2) (cond d (Some 3) (cond e (Some 4) (cond f (Some 5) None))))))
    ≡ cond a (Some Module) (cond b (Some EndModule) (cond c (Some Input) (cond d (Some Output) (cond e (Some Wire) (cond f (Some Assign) None)))))
by_tests true b c d e f = refl
by_tests false true c d e f = refl
by_tests false false true d e f = refl
by_tests false false false true e f = refl
by_tests false false false false true f = refl
by_tests false false false false false true = refl
by_tests false false false false false false = refl

pub row_mark_is_word_mark : (text : List ℕ) → row_mark text ≡ word_mark text
unfolding mark_words word_mark
row_mark_is_word_mark text =
    rw (
      bytes_eq-sym text (codes "module"),
      bytes_eq-sym text (codes "endmodule"),
      bytes_eq-sym text (codes "input"),
      bytes_eq-sym text (codes "output"),
      bytes_eq-sym text (codes "wire"),
      bytes_eq-sym text (codes "assign"),
    ) (by_tests (bytes_eq (codes "module") text) (bytes_eq (codes "endmodule") text) (bytes_eq (codes "input") text)
    (bytes_eq (codes "output") text) (bytes_eq (codes "wire") text) (bytes_eq (codes "assign") text))
