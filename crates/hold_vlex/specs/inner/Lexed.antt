-- lexed_at place text: what is read from the text from that place on.
-- IsNext old result new: where old is to be read, a call gives its first token, its end or its fault, and new is
--   to be read after it. At the end and at a fault, new is old, so that later calls answer the same.
use Rattle.std.specs.Prelude.{◌≡◌, ℕ, List, [], drop, Option, Some, None, Result, Ok, ◌↔◌, IfOk, IfErr, IfSome}
use Rattle.hold_vlex.specs.declared.token.Token.{Token}
use Rattle.hold_vlex.specs.declared.fault.LexFault.{LexFault}
use Rattle.hold_vlex.specs.Lexed.{Lexed, ended, lexed_from, lexeme, with_token}

abbrev pub lexed_at : ℕ → List ℕ → Lexed
lexed_at place text = lexed_from 0 place (drop place text)

pub record IsNext (old : Lexed) (result : Result (Option Token) LexFault) (new : Lexed) : Type 0 where
  pub end : (result ≡ Ok None) ↔ (old ≡ ended None)
  pub token : IfOk result (λ o. IfSome o (λ t. old ≡ with_token (lexeme t) new))
  pub fault : IfErr result (λ f. old ≡ ended (Some f))
  pub stays : old.tokens ≡ [] → new ≡ old
