-- When two netlists mean the same: n, and w, which is made from it with new wires and instances behind its own.
--
-- IsFair kinds rows: under these rows each kind of buffer copies its input to its output.
-- kept n values: the values of w, kept to the net bits of n, which are the first ones.
-- IsPin d inst pin source: the connection of that pin, of the instance of that name, has that source.
-- IsPortBit d port k bit: that net bit is the bit of the port of that name that is k from its left bound.
-- ReadsAt, ReadsPort: what one such connection, or port bit, reads.
-- ReadsSame n w values: each connection of n stands in w too, and reads the same there; so does each bit of a port, by the port's name
--   and the bit's place in it.
-- IsOnlyExtension types rows n w old new: new is the one solution of w that is old where it is kept to n.
-- Same types kinds n w: under all fair rows each solution of w, kept to n, solves n, and all of n reads the same in both; and each
--   solution of n is kept from exactly one solution of w.
-- Worked example, in proofs/Examples: Same-self.
use Rattle.std.specs.Prelude.{◌≡◌, ℕ, List, [], ◌∷◌, Some, take, slice_get, Bool, Contains}
use Rattle.hold_netlist.specs.declared.inst.Source.{Source}
use Rattle.hold_netlist.specs.declared.inst.Pin.{Pin}
use Rattle.hold_netlist.specs.declared.inst.Inst.{Inst}
use Rattle.hold_netlist.specs.declared.kind.Kind.{Kind}
use Rattle.hold_netlist.specs.declared.wire.Port.{Port}
use Rattle.hold_netlist.specs.Bits.{bits_of, IsNetBit}
use Rattle.hold_netlist.specs.Design.{Design}
use Rattle.hold_roles.specs.declared.role.CellType.{CellType}
use Rattle.hold_roles.specs.declared.row.Row.{Row}
use Rattle.hold_roles.specs.Solutions.{bit_at, output_value, source_value, IsSolution}

abbrev pub IsFair : List Kind → List Row → Type 0
IsFair kinds rows = (kind : Kind) → Contains kinds kind → (b : Bool) → output_value rows kind.cell kind.output (b ∷ []) ≡ b

abbrev pub kept : Design → List Bool → List Bool
kept n values = take (bits_of n.wires) values

pub record IsPin (d : Design) (inst pin : List ℕ) (source : Source) : Type 0 where
  pub i : Inst
  pub has_inst : Contains d.insts i
  pub inst_named : i.name ≡ inst
  pub p : Pin
  pub has_pin : Contains i.pins p
  pub pin_named : p.name ≡ pin
  pub is : p.source ≡ source

pub record IsPortBit (d : Design) (port : List ℕ) (k bit : ℕ) : Type 0 where
  pub place : ℕ
  pub p : Port
  pub at : slice_get d.ports place ≡ Some p
  pub named : p.name ≡ port
  pub is_bit : IsNetBit d.wires bit place k

-- in w the pin reads what it reads from that source in n
pub record ReadsAt (n w : Design) (values : List Bool) (inst pin : List ℕ) (source : Source) : Type 0 where
  pub there : Source
  pub is_pin : IsPin w inst pin there
  pub same : source_value (kept n values) source ≡ source_value values there

-- in w that bit of the port has that net bit's value in n
pub record ReadsPort (n w : Design) (values : List Bool) (port : List ℕ) (k bit : ℕ) : Type 0 where
  pub there : ℕ
  pub is_bit : IsPortBit w port k there
  pub same : bit_at (kept n values) bit ≡ bit_at values there

pub record ReadsSame (n w : Design) (values : List Bool) : Type 0 where
  pub pins : (inst pin : List ℕ) (source : Source) → IsPin n inst pin source → ReadsAt n w values inst pin source
  pub ports : (port : List ℕ) (k bit : ℕ) → IsPortBit n port k bit → ReadsPort n w values port k bit

pub record IsOnlyExtension (types : List CellType) (rows : List Row) (n w : Design) (old new : List Bool) : Type 0 where
  pub solves : IsSolution types rows w new
  pub keeps : kept n new ≡ old
  pub only : (other : List Bool) → IsSolution types rows w other → kept n other ≡ old → other ≡ new

pub record Same (types : List CellType) (kinds : List Kind) (n w : Design) : Type 0 where
  pub down : (rows : List Row) (values : List Bool) → IsFair kinds rows → IsSolution types rows w values → IsSolution types rows n (kept n values)
  pub reads : (rows : List Row) (values : List Bool) → IsFair kinds rows → IsSolution types rows w values → ReadsSame n w values
  pub up : (rows : List Row) (old : List Bool) → IsFair kinds rows → IsSolution types rows n old → (new : List Bool) × IsOnlyExtension types rows n w old new
