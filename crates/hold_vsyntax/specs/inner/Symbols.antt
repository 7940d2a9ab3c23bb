-- mark_words: the words of the grammar, as the rows of a table. mark_of_row row: the mark of the word in that row, from
--   0; None past the last. row_mark text: the mark of a word by its row; None where no row is the word.
-- mark_number m: the number of a mark, by which marks are told apart.
use Rattle.std.specs.Prelude.{ℕ, ◌==◌, List, [], ◌∷◌, if◌then◌else◌, Option, Some, None, codes}
use Rattle.std.specs.Option.{option_and_then}
use Rattle.hold_words.specs.Rows.{first_row}
use Rattle.hold_vsyntax.specs.declared.mark.Mark.{Mark}
use Rattle.hold_vsyntax.specs.declared.mark.Mark.TheVariants.{Module, EndModule, Input, Output, Wire, Assign, Comma, Semicolon, Colon, Dot, Equals, LeftParenthesis, RightParenthesis, LeftBracket, RightBracket}

unfoldable pub mark_words : List (List ℕ)
mark_words =
    codes "module" ∷ codes "endmodule" ∷ codes "input" ∷ codes "output" ∷ codes "wire" ∷ codes "assign" ∷ []

abbrev pub mark_of_row : ℕ → Option Mark
mark_of_row row =
    if row == 0 then Some Module
    else (if row == 1 then Some EndModule
    else (if row == 2 then Some Input
    else (if row == 3 then Some Output
    else (if row == 4 then Some Wire
    else (if row == 5 then Some Assign
    else None)))))

abbrev pub row_mark : List ℕ → Option Mark
row_mark text = option_and_then mark_of_row (first_row text mark_words)

abbrev pub mark_number : Mark → ℕ
mark_number Module = 0
mark_number EndModule = 1
mark_number Input = 2
mark_number Output = 3
mark_number Wire = 4
mark_number Assign = 5
mark_number Comma = 6
mark_number Semicolon = 7
mark_number Colon = 8
mark_number Dot = 9
mark_number Equals = 10
mark_number LeftParenthesis = 11
mark_number RightParenthesis = 12
mark_number LeftBracket = 13
mark_number RightBracket = 14
