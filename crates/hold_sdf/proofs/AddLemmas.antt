-- Entries that are added group by group.
use Rattle.std.proofs.Common.{◌≡◌, ℕ, Bool, true, List, [], ◌∷◌, ◌++◌, Some, None, refl, sym, ap, ◌∙◌, append-nil, append_assoc}
use Rattle.std.specs.Prelude.{Ok, Err}
use Rattle.hold_sdflex.specs.Items.{Group, Item, items_in, first_group, behind}
use Rattle.hold_sdf.specs.declared.entry.Entry.{Entry}
use Rattle.hold_sdf.specs.declared.fault.SdfFault.{SdfFault}
use Rattle.hold_sdf.specs.Entries.{Scene, Answer, joined, each_by, each, arc_entries, iopath_entries}
use Rattle.hold_sdf.specs.Shapes.{IoPath, iopath_of, retain_among}
use Rattle.hold_sdf.specs.inner.Adds.{after}

pub each-more : (judge : Group → Answer) (items : List Item) (g : Group) → Some g ≡ first_group items → each judge items ≡ joined (judge g) (each judge (behind items))
each-more judge [] g is = cc
each-more judge (item ∷ rest) g is = ap (λ o. each_by judge o (each judge rest)) (sym is)

pub each-end : (judge : Group → Answer) (items : List Item) → None ≡ first_group items → each judge items ≡ Ok []
each-end judge [] is = refl
each-end judge (item ∷ rest) is = ap (λ o. each_by judge o (each judge rest)) (sym is)

-- what was added goes before what is added next, and a fault before that
pub after_ok : (front now : List Entry) (a rest : Answer) → after front a ≡ Ok now → after front (joined a rest) ≡ after now rest
after_ok front now (Err e) rest is = cc
after_ok front now (Ok more) (Err e) is = refl
after_ok front now (Ok more) (Ok last) is = let same : front ++ more ≡ now = cc in ap Ok (sym (append_assoc front more last)) ∙ ap (λ es. Ok (es ++ last)) same

pub after_err : (front : List Entry) (fault : SdfFault) (a rest : Answer) → after front a ≡ Err fault → after front (joined a rest) ≡ Err fault
after_err front fault (Err e) rest is = is
after_err front fault (Ok more) rest is = cc

pub after_none : (front : List Entry) → after front (Ok []) ≡ Ok front
after_none front = ap Ok (append-nil front)

-- an IOPATH without a RETAIN, of the right shape
pub iopath_right : (scene : Scene) (blamed : ℕ) (right : Bool) (g : Group) (path : IoPath) → None ≡ retain_among (items_in g.inner) → right ≡ true → Some path ≡ iopath_of (items_in g.inner) →
    arc_entries scene blamed g.at (Some path) ≡ iopath_entries scene blamed right g
unfolding iopath_entries
iopath_right scene blamed right g path none is_right is = rw (← none, is_right, ← is) refl

-- entries that are added to none
pub nothing_ok : (a : Answer) (es : List Entry) → after [] a ≡ Ok es → a ≡ Ok es
nothing_ok (Ok more) es is = is
nothing_ok (Err e) es is = cc

pub nothing_err : (a : Answer) (fault : SdfFault) → after [] a ≡ Err fault → a ≡ Err fault
nothing_err (Ok more) fault is = cc
nothing_err (Err e) fault is = is

pub ruleset from_nothing = (nothing_ok, nothing_err)

pub ruleset each_steps = (each-more, each-end, after_ok, after_err, after_none)
