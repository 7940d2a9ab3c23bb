-- Small netlists and what their values must be: that a solution is what it was meant to be.
use Rattle.std.proofs.Common.{◌≡◌, ℕ, List, [], ◌∷◌, Bool, true, false, not, Some, None, refl, sym, ap, ◌∙◌, subst, arith, codes}
use Rattle.std.proofs.lemmas.List.{take_all}
use Rattle.hold_netlist.specs.declared.inst.Source.TheVariants.{Net, One, Empty}
use Rattle.hold_netlist.specs.declared.inst.Pin.{Pin}
use Rattle.hold_netlist.specs.declared.inst.Inst.{Inst}
use Rattle.hold_netlist.specs.declared.kind.Kind.{Kind}
use Rattle.hold_netlist.specs.declared.wire.Wire.{Wire}
use Rattle.hold_netlist.specs.Bits.{bits_of}
use Rattle.hold_netlist.specs.Design.{Design, design}
use Rattle.hold_roles.specs.declared.role.CellType.{CellType}
use Rattle.hold_roles.specs.declared.role.Role.TheVariants.{Comb, Register}
use Rattle.hold_roles.specs.declared.row.Row.{Row}
use Rattle.hold_roles.specs.Solutions.{bit_at, source_value, IsSolution}
use Rattle.hold_roles.specs.Meaning.{kept, Same}

-- ---- parts

abbrev wire : List ℕ → Wire
wire name = record { name = name; range = None }

abbrev on : List ℕ → ℕ → Pin
on name net = record { name = name; source = Net (record { 0 = net }) }

abbrev inst : List ℕ → List ℕ → List Pin → Inst
inst kind name pins = record { name = name; kind = kind; pins = pins }

-- `INV` with an input `A` and an output `Y`, `DFF` with clock `C`, data `D` and output `Q`, and `GATE` with inputs `A` and `B` and an output `Y`
abbrev cells : List CellType
cells =
    record { name = codes "INV"; role = Comb; inputs = codes "A" ∷ []; clock = None; quiet = []; outputs = codes "Y" ∷ [] }
    ∷ record { name = codes "DFF"; role = Register; inputs = codes "D" ∷ []; clock = Some (codes "C"); quiet = []; outputs = codes "Q" ∷ [] }
    ∷ record { name = codes "GATE"; role = Comb; inputs = codes "A" ∷ codes "B" ∷ []; clock = None; quiet = []; outputs = codes "Y" ∷ [] }
    ∷ []

-- `INV` gives 1 for 0; `GATE` gives 1 for 0 and 1; all else is 0
abbrev rows : List Row
rows =
    record { kind = codes "INV"; output = codes "Y"; inputs = false ∷ []; value = true }
    ∷ record { kind = codes "GATE"; output = codes "Y"; inputs = false ∷ true ∷ []; value = true }
    ∷ []

-- ---- an inverter and a register

-- module m; wire c, a, b; DFF u1(.C(c), .D(b), .Q(a)); INV u2(.A(a), .Y(b)); endmodule
abbrev divider : Design
divider = design (codes "m") [] (wire (codes "c") ∷ wire (codes "a") ∷ wire (codes "b") ∷ [])
    (inst (codes "DFF") (codes "u1") (on (codes "C") 0 ∷ on (codes "D") 2 ∷ on (codes "Q") 1 ∷ []) ∷ inst (codes "INV") (codes "u2") (on (codes "A") 1 ∷ on (codes "Y") 2 ∷ []) ∷ [])
    []

-- the register's output and the clock are free, and the inverter's output is the other bit
pub divider-solved : (c a : Bool) → IsSolution cells rows divider (c ∷ a ∷ not a ∷ [])
divider-solved c true = record { each = refl; assigns = tt; insts = (tt, (((λ h. cc), ((λ h. refl), tt)), tt)) }
divider-solved c false = record { each = refl; assigns = tt; insts = (tt, (((λ h. cc), ((λ h. refl), tt)), tt)) }

pub divider-only : (c a b : Bool) → IsSolution cells rows divider (c ∷ a ∷ b ∷ []) → b ≡ not a
divider-only c true b h = h.insts.1.0.1.0 refl
divider-only c false b h = h.insts.1.0.1.0 refl

-- ---- assignments

-- module m; wire a, b, z; assign b = a; assign z = 1'b1; endmodule
abbrev aliases : Design
aliases = design (codes "m") [] (wire (codes "a") ∷ wire (codes "b") ∷ wire (codes "z") ∷ []) []
    (record { left = record { 0 = 1 }; right = Net (record { 0 = 0 }) } ∷ record { left = record { 0 = 2 }; right = One } ∷ [])

pub aliases-solved : (a : Bool) → IsSolution cells rows aliases (a ∷ a ∷ true ∷ [])
aliases-solved a = record { each = refl; assigns = (refl, (refl, tt)); insts = tt }

pub aliases-only : (a b z : Bool) → IsSolution cells rows aliases (a ∷ b ∷ z ∷ []) → (b ≡ a) × (z ≡ true)
aliases-only a b z h = (h.assigns.0, h.assigns.1.0)

-- ---- an input that is written empty, and one that isn't written

-- module m; wire b, y; GATE u(.A(), .B(b), .Y(y)); endmodule
abbrev empty_input : Design
empty_input = design (codes "m") [] (wire (codes "b") ∷ wire (codes "y") ∷ [])
    (inst (codes "GATE") (codes "u") (record { name = codes "A"; source = Empty } ∷ on (codes "B") 0 ∷ on (codes "Y") 1 ∷ []) ∷ []) []

-- it reads 0, so the output follows the other input
pub empty_input-solved : (b : Bool) → IsSolution cells rows empty_input (b ∷ b ∷ [])
empty_input-solved true = record { each = refl; assigns = tt; insts = (((λ h. cc), ((λ h. cc), ((λ h. refl), tt))), tt) }
empty_input-solved false = record { each = refl; assigns = tt; insts = (((λ h. cc), ((λ h. cc), ((λ h. refl), tt))), tt) }

pub empty_input-only : (b y : Bool) → IsSolution cells rows empty_input (b ∷ y ∷ []) → y ≡ b
empty_input-only true y h = h.insts.0.1.1.0 refl
empty_input-only false y h = h.insts.0.1.1.0 refl

-- module m; wire b, y; GATE u(.B(b), .Y(y)); endmodule
abbrev unwritten_input : Design
unwritten_input = design (codes "m") [] (wire (codes "b") ∷ wire (codes "y") ∷ []) (inst (codes "GATE") (codes "u") (on (codes "B") 0 ∷ on (codes "Y") 1 ∷ []) ∷ []) []

pub unwritten_input-solved : (b : Bool) → IsSolution cells rows unwritten_input (b ∷ b ∷ [])
unwritten_input-solved true = record { each = refl; assigns = tt; insts = (((λ h. cc), ((λ h. refl), tt)), tt) }
unwritten_input-solved false = record { each = refl; assigns = tt; insts = (((λ h. cc), ((λ h. refl), tt)), tt) }

pub unwritten_input-only : (b y : Bool) → IsSolution cells rows unwritten_input (b ∷ y ∷ []) → y ≡ b
unwritten_input-only true y h = h.insts.0.1.0 refl
unwritten_input-only false y h = h.insts.0.1.0 refl

-- ---- the same meaning

kept-whole : (types : List CellType) (rows : List Row) (n : Design) (values : List Bool) → IsSolution types rows n values → kept n values ≡ values
kept-whole types rows n values h = take_all (bits_of n.wires) values (let long = h.each in omega arith)

-- a netlist means the same as itself
pub Same-self : (types : List CellType) (kinds : List Kind) (n : Design) → Same types kinds n n
Same-self types kinds n = record {
  down = λ rows values fair h. subst (IsSolution types rows n) (sym (kept-whole types rows n values h)) h;
  reads = λ rows values fair h. record {
    pins = λ inst pin source is. record { there = source; is_pin = is; same = ap (λ (v : List Bool). source_value v source) (kept-whole types rows n values h) };
    ports = λ port k bit is. record { there = bit; is_bit = is; same = ap (λ (v : List Bool). bit_at v bit) (kept-whole types rows n values h) };
  };
  up = λ rows old fair h. (
    old,
    record {
      solves = h;
      keeps = kept-whole types rows n old h;
      only = λ other solves keeps. sym (kept-whole types rows n other solves) ∙ keeps;
    },
  );
}
