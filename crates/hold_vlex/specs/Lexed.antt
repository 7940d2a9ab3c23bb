-- Lexeme: a token without where it lies in memory: its sort, its text (of an escaped name without the
--   backslash, of a directive with the backquote) and the place where it begins, from 0: that of its first byte,
--   and of an escaped name that of the backslash, one before its text.
-- lexeme t: the lexeme of a token.
-- Lexed: what is read from a text: its tokens in order, up to its end or up to the first fault, and that fault.
--   A text without a fault has None there. An empty text has no tokens and no fault.
-- ended fault: nothing more, but for that fault.
-- with_token t l: the token t and then l.
-- lexed_by at f after: what is read where f stands at the place at, and after n of its bytes what after tells.
-- lexed text: what is read from the text.
-- lexed_from n at text: what is read from a text whose first byte has the place at, and whose first n bytes
--   belong to what was read before it.
-- marks sort: how many bytes stand before the text of a token of that sort: the backslash of an escaped name.
-- AreSlices text from ts: the tokens ts stand in the text at rising places from the place from on, none within
--   another or past the text's end, and each has the bytes of the text at its place (an escaped name those after
--   its backslash).
use Rattle.std.specs.Prelude.{◌≡◌, ℕ, zero, suc, ◌+◌, ◌-◌, ◌≤◌, List, [], ◌∷◌, length, take, drop, Option, Some, None}
use Rattle.hold_vlex.specs.Front.{Front, front, Nothing, Past, Read, Bad, NoEnd, NoName}
use Rattle.hold_vlex.specs.declared.token.Sort.{Sort}
use Rattle.hold_vlex.specs.declared.token.Sort.TheVariants.{Word, Escaped, Number, Constant, Directive, Sign, Other}
use Rattle.hold_vlex.specs.declared.token.Token.{Token}
use Rattle.hold_vlex.specs.declared.fault.LexFault.{LexFault}
use Rattle.hold_vlex.specs.declared.fault.LexFault.TheVariants.{BadByte, OpenComment, OpenName}

pub record Lexeme : Type 0 where
  pub sort : Sort
  pub text : List ℕ
  pub at : ℕ

pub record Lexed : Type 0 where
  pub tokens : List Lexeme
  pub fault : Option LexFault

abbrev pub lexeme : Token → Lexeme
lexeme t = record { sort = t.sort; text = t.text.now; at = t.at }

abbrev pub ended : Option LexFault → Lexed
ended fault = record { tokens = []; fault = fault }

abbrev pub with_token : Lexeme → Lexed → Lexed
with_token t l = record { tokens = t ∷ l.tokens; fault = l.fault }

abbrev pub lexed_by : ℕ → Front → (ℕ → Lexed) → Lexed
lexed_by at Nothing after = ended None
lexed_by at (Past n) after = after n
lexed_by at (Read sort text n) after = with_token (record { sort = sort; text = text; at = at }) (after n)
lexed_by at (Bad n) after = ended (Some (BadByte (at + n)))
lexed_by at NoEnd after = ended (Some (OpenComment at))
lexed_by at NoName after = ended (Some (OpenName at))

unfoldable pub lexed_from : ℕ → ℕ → List ℕ → Lexed
lexed_from n at [] = ended None
lexed_from zero at (b ∷ bs) = lexed_by at (front (b ∷ bs)) (λ n. lexed_from (n - 1) (at + 1) bs)
lexed_from (suc n) at (b ∷ bs) = lexed_from n (at + 1) bs

abbrev pub lexed : List ℕ → Lexed
lexed text = lexed_from 0 0 text

abbrev pub marks : Sort → ℕ
marks Word = 0
marks Escaped = 1
marks Number = 0
marks (Constant value) = 0
marks Directive = 0
marks Sign = 0
marks Other = 0

abbrev pub AreSlices : List ℕ → ℕ → List Lexeme → Type 0
AreSlices text from [] = from ≤ length text
AreSlices text from (t ∷ ts) =
    (from ≤ t.at) × (t.text ≡ take (length t.text) (drop (t.at + marks t.sort) text))
    × AreSlices text (t.at + marks t.sort + length t.text) ts
