-- What is read from a text goes by what stands at its front.
use Rattle.std.proofs.Common.{◌≡◌, ℕ, zero, suc, ◌+◌, ◌-◌, ◌<◌, List, [], ◌∷◌, length, drop, Some, None, Ok, Err, refl, sym, ◌∙◌, ap, subst, arith}
use Rattle.std.proofs.lemmas.List.{drop-drop}
use Rattle.std.proofs.Math.Seq.{drop-nil}
use Rattle.hold_vlex.specs.Front.{Front, Nothing, Past, Read, Bad, NoEnd, NoName, front}
use Rattle.hold_vlex.specs.inner.Front.{IsWithin}
use Rattle.hold_vlex.specs.Lexed.{Lexed, ended, with_token, lexed_by, lexed_from, lexeme}
use Rattle.hold_vlex.specs.inner.Lexed.{lexed_at, IsNext}
use Rattle.hold_vlex.specs.declared.token.Token.{Token}
use Rattle.hold_vlex.specs.declared.fault.LexFault.{LexFault}
use Rattle.hold_vlex.proofs.FrontLemmas.{front_within}

-- bytes that belong to what was read before are passed
lexed_from-skip : (n at : ℕ) (text : List ℕ) → lexed_from n at text ≡ lexed_from 0 (at + n) (drop n text)
unfolding lexed_from
lexed_from-skip n at [] = rw (drop-nil n) refl
lexed_from-skip zero at (b ∷ bs) = let e : at ≡ at + 0 = omega arith in ap (λ m. lexed_from 0 m (b ∷ bs)) e
lexed_from-skip (suc n) at (b ∷ bs) =
    let e : at + 1 + n ≡ at + suc n = omega arith in
    lexed_from-skip n (at + 1) bs ∙ ap (λ m. lexed_from 0 m (drop n bs)) e

-- after a whole thing, which has at least one byte
after-whole : (n at b : ℕ) (bs : List ℕ) → 0 < n → lexed_from (n - 1) (at + 1) bs ≡ lexed_from 0 (at + n) (drop n (b ∷ bs))
after-whole zero at b bs h = absurd (omega arith)
after-whole (suc n) at b bs h =
    let e : suc n - 1 ≡ n = omega arith in
    let place : at + 1 + n ≡ at + suc n = omega arith in
    ap (λ m. lexed_from m (at + 1) bs) e ∙ lexed_from-skip n (at + 1) bs ∙ ap (λ m. lexed_from 0 m (drop n bs)) place

lexed_by-after : (at len : ℕ) (f : Front) (g h : ℕ → Lexed) → IsWithin len f → ((n : ℕ) → 0 < n → g n ≡ h n) → lexed_by at f g ≡ lexed_by at f h
lexed_by-after at len Nothing g h w e = refl
lexed_by-after at len (Past n) g h w e = e n w.0
lexed_by-after at len (Read sort t n) g h w e = ap (with_token (record { sort = sort; text = t; at = at })) (e n w.0)
lexed_by-after at len (Bad n) g h w e = refl
lexed_by-after at len NoEnd g h w e = refl
lexed_by-after at len NoName g h w e = refl

pub lexed_from-front : (at : ℕ) (text : List ℕ) → lexed_from 0 at text ≡ lexed_by at (front text) (λ n. lexed_from 0 (at + n) (drop n text))
unfolding lexed_from front
lexed_from-front at [] = refl
lexed_from-front at (b ∷ bs) = lexed_by-after at _ (front (b ∷ bs)) _ _ (front_within (b ∷ bs)) (λ n h. after-whole n at b bs h)

-- what is read from a place on is what stands there, and then what is read after it
pub lexed_at-front : (place : ℕ) (text : List ℕ) (f : Front) → f ≡ front (drop place text) → lexed_at place text ≡ lexed_by place f (λ n. lexed_at (place + n) text)
lexed_at-front place text f e =
    lexed_from-front place (drop place text)
    ∙ ap (λ g. lexed_by place g (λ n. lexed_from 0 (place + n) (drop n (drop place text)))) (sym e)
    ∙ lexed_by-after place _ f _ _ (subst (IsWithin (length (drop place text))) (sym e) (front_within (drop place text)))
    (λ n h. ap (lexed_from 0 (place + n)) (drop-drop n place text))

-- the three answers of a call
pub IsNext-None : (old new : Lexed) → new ≡ old → old ≡ ended None → IsNext old (Ok None) new
IsNext-None old new same e = record { end = ((λ _. e), λ _. refl); token = tt; fault = tt; stays = λ _. same }

pub IsNext-Err : (old new : Lexed) (f : LexFault) → new ≡ old → old ≡ ended (Some f) → IsNext old (Err f) new
IsNext-Err old new f same e = record {
  end = ((λ h. absurd cc), λ h. let faults = ap (λ (l : Lexed). l.fault) (sym e ∙ h) in absurd cc);
  token = tt;
  fault = e;
  stays = λ _. same;
}

pub IsNext-Some : (old new : Lexed) (t : Token) → old ≡ with_token (lexeme t) new → IsNext old (Ok (Some t)) new
IsNext-Some old new t e = record {
  end = ((λ h. absurd cc), λ h. let tokens = ap (λ (l : Lexed). l.tokens) (sym e ∙ h) in absurd cc);
  token = e;
  fault = tt;
  stays = λ h. let tokens = sym (ap (λ (l : Lexed). l.tokens) e) ∙ h in absurd cc;
}
