-- Going down into a split and back up to the next box.
use Rattle.std.proofs.Common.{◌≡◌, ℕ, ◌+◌, ◌<◌, List, [], ◌∷◌, ◌++◌, get_or, set, reverse, Bool, false, sym, ap, ◌∙◌}
use Rattle.std.proofs.lemmas.List.{set-set, set-get_or, reverse-append}
use Rattle.hold_base.specs.declared.number.VarNo.{VarNo}
use Rattle.hold_proof.specs.declared.walk.Turn.{Turn}
use Rattle.hold_proof.specs.declared.walk.Turn.TheVariants.{Lower, Upper}
use Rattle.hold_graph.specs.Boxes.{upper_half, lower_half}
use Rattle.hold_proof.specs.inner.Walk.{box_at, waiting, boxes_when, turn_var, AreTurns}

set-back : (xs : List ℕ) (i x : ℕ) → set (set xs i x) i (get_or xs i 0) ≡ xs
set-back xs i x = set-set xs i x (get_or xs i 0) ∙ set-get_or xs i 0

pub waiting-enter : (lows highs : List ℕ) (var : VarNo) (at : ℕ) (turns : List Turn) →
    waiting lows (set highs var.0 at) (Lower var (at + 1) (get_or highs var.0 0) ∷ turns) ≡ upper_half var at (box_at lows highs) ∷ waiting lows highs turns
waiting-enter lows highs var at turns =
    ap (λ h. box_at (set lows var.0 (at + 1)) h ∷ waiting lows h turns) (set-back highs var.0 at)

pub waiting-leave : (lows highs : List ℕ) (var : VarNo) (low high : ℕ) (turns : List Turn) →
    box_at (set lows var.0 low) (set highs var.0 high) ∷ waiting (set lows var.0 low) (set highs var.0 high) (Upper var (get_or lows var.0 0) ∷ turns) ≡ waiting lows highs (Lower var low high ∷ turns)
waiting-leave lows highs var low high turns =
    ap (λ l. box_at (set lows var.0 low) (set highs var.0 high) ∷ waiting l (set highs var.0 high) turns) (set-back lows var.0 low)

pub reverse-push : (turns : List Turn) (turn : Turn) → reverse (turns ++ turn ∷ []) ≡ turn ∷ reverse turns
reverse-push turns turn = reverse-append turns (turn ∷ [])

pub enter-boxes : (lows highs : List ℕ) (turns now : List Turn) (var : VarNo) (at high : ℕ) (ended : Bool) → ended ≡ false → now ≡ turns ++ Lower var (at + 1) high ∷ [] → high ≡ get_or highs var.0 0 →
    boxes_when ended lows (set highs var.0 at) (reverse now) ≡ lower_half var at (box_at lows highs) ∷ upper_half var at (box_at lows highs) ∷ waiting lows highs (reverse turns)
enter-boxes lows highs turns now var at high ended left pushed is =
    ap (λ e. boxes_when e lows (set highs var.0 at) (reverse now)) left
    ∙ ap (λ t. lower_half var at (box_at lows highs) ∷ waiting lows (set highs var.0 at) t) (ap reverse pushed ∙ reverse-push turns (Lower var (at + 1) high) ∙ ap (λ h. Lower var (at + 1) h ∷ reverse turns) is)
    ∙ ap (λ l. lower_half var at (box_at lows highs) ∷ l) (waiting-enter lows highs var at (reverse turns))

pub leave-boxes : (lows highs now_lows now_highs : List ℕ) (turns rest now : List Turn) (var : VarNo) (low high old : ℕ) (ended : Bool) → ended ≡ false → turns ≡ rest ++ Lower var low high ∷ [] →
    now ≡ rest ++ Upper var old ∷ [] → old ≡ get_or lows var.0 0 → now_lows ≡ set lows var.0 low → now_highs ≡ set highs var.0 high →
    boxes_when ended now_lows now_highs (reverse now) ≡ waiting lows highs (reverse turns)
leave-boxes lows highs now_lows now_highs turns rest now var low high old ended left popped pushed is lows_are highs_are =
    ap (λ e. boxes_when e now_lows now_highs (reverse now)) left
    ∙ ap (λ l. box_at l now_highs ∷ waiting l now_highs (reverse now)) lows_are
    ∙ ap (λ h. box_at (set lows var.0 low) h ∷ waiting (set lows var.0 low) h (reverse now)) highs_are
    ∙ ap (λ t. box_at (set lows var.0 low) (set highs var.0 high) ∷ waiting (set lows var.0 low) (set highs var.0 high) t) (ap reverse pushed ∙ reverse-push rest (Upper var old) ∙ ap (λ o. Upper var o ∷ reverse rest) is)
    ∙ waiting-leave lows highs var low high (reverse rest)
    ∙ ap (waiting lows highs) (sym (ap reverse popped ∙ reverse-push rest (Lower var low high)))

-- the last turn is of a variable that is there
pub last_turn-there : (vars : ℕ) (turns rest : List Turn) (turn : Turn) → AreTurns vars (reverse turns) → turns ≡ rest ++ turn ∷ [] → turn_var turn < vars
last_turn-there vars turns rest turn are popped =
    let first : reverse turns ≡ turn ∷ reverse rest = ap reverse popped ∙ reverse-push rest turn in
    (rw first at are).0
