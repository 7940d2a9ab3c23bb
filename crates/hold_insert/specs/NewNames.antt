-- The names of the wires and instances that are put into a netlist.
--
-- stem n: what the names of the number n begin with: `hold_n_`.
-- wire_name n i, inst_name n i: the names of the new wire and of the instance of buffer i: `hold_n_wI` and `hold_n_bI`.
-- inst_names insts: the names of instances, in order. names_of d: those of all wires and instances of a netlist.
-- BeginsWith start name: the name begins so. It may be no longer than that.
-- IsFree d n: no wire and no instance of the netlist has a name that begins as those of the number n do.
-- IsFresh d n: n is the least number that is free. A number is spelled in one way, so `hold_007_` makes no number unfree.
use Rattle.std.specs.Prelude.{◌≡◌, ℕ, ◌<◌, List, ◌++◌, map, codes, decimal}
use Rattle.std.specs.List.{AllByRecursion}
use Rattle.hold_netlist.specs.declared.inst.Inst.{Inst}
use Rattle.hold_netlist.specs.Design.{Design}
use Rattle.hold_netlist.specs.Names.{wire_names}

abbrev pub stem : ℕ → List ℕ
stem n = codes "hold_" ++ (decimal n ++ codes "_")

abbrev pub wire_name : ℕ → ℕ → List ℕ
wire_name n i = stem n ++ (codes "w" ++ decimal i)

abbrev pub inst_name : ℕ → ℕ → List ℕ
inst_name n i = stem n ++ (codes "b" ++ decimal i)

abbrev pub inst_names : List Inst → List (List ℕ)
inst_names insts = map (λ i. i.name) insts

abbrev pub names_of : Design → List (List ℕ)
names_of d = wire_names d.wires ++ inst_names d.insts

abbrev pub BeginsWith : List ℕ → List ℕ → Type 0
BeginsWith start name = (rest : List ℕ) × (name ≡ start ++ rest)

abbrev pub IsFree : Design → ℕ → Type 0
IsFree d n = AllByRecursion (λ name. BeginsWith (stem n) name → ⊥) (names_of d)

pub record IsFresh (d : Design) (n : ℕ) : Type 0 where
  pub free : IsFree d n
  pub least : (m : ℕ) → m < n → IsFree d m → ⊥
