-- The line that says why an input is refused.
--
-- placed word at: a word and a place, which counts bytes from 0. named word name: a word and a name.
-- what_text what: what passes its limit.
-- job_text, lex_text, verilog_text, roles_text, build_text, sdf_text: what is said of a fault of each sort: a word for the cause, and then what it is
--   about. pins_text pins: the pins of a cycle, as they are said, each behind a space.
-- refusal_text refusal: what is said of a refusal behind `input `. A corner is said by its number.
-- refusal_line refusal: the whole line.
use Rattle.std.specs.Prelude.{ℕ, List, ◌++◌, flat_map, codes, decimal}
use Rattle.hold_base.specs.declared.stop.What.{What}
use Rattle.hold_base.specs.declared.stop.What.TheVariants.{Bound, Bits, Instances, Pins, Assigns, Arcs}
use Rattle.hold_job.specs.declared.fault.JobFault.{JobFault}
use Rattle.hold_job.specs.declared.fault.JobFault.TheVariants.{Toml, Key, Range, Double, SameName}
use Rattle.hold_vlex.specs.declared.fault.LexFault.{LexFault}
use Rattle.hold_vlex.specs.declared.fault.LexFault.TheVariants.{BadByte, OpenComment, OpenName}
use Rattle.hold_vparse.specs.declared.fault.VerilogFault.{VerilogFault}
use Rattle.hold_vparse.specs.declared.fault.VerilogFault.TheVariants.{Lex, Syntax, LeftOut, DoubleName, BadPort, BadBit, Limit}
use Rattle.hold_roles.specs.declared.fault.RoleFault.{RoleFault}
use Rattle.hold_roles.specs.declared.fault.RoleFault.TheVariants.{Limit as RoleLimit, NoRole, BadPin, DoubleDriver, AssignRing}
use Rattle.hold_build.specs.declared.fault.BuildFault.{BuildFault}
use Rattle.hold_build.specs.declared.fault.BuildFault.TheVariants.{Unknown, Limit as GraphLimit, Cycle}
use Rattle.hold_sdf.specs.declared.fault.SdfFault.{SdfFault}
use Rattle.hold_sdf.specs.declared.fault.SdfFault.TheVariants.{Syntax as BadGroup, LeftOut as WordLeftOut, Number}
use Rattle.hold_front.specs.declared.refusal.Refusal.{Refusal}
use Rattle.hold_front.specs.declared.refusal.Refusal.TheVariants.{TooLong, Job, Verilog, Roles, Build, Sdf}

abbrev pub placed : List ℕ → ℕ → List ℕ
placed word at = word ++ codes " " ++ decimal at

abbrev pub named : List ℕ → List ℕ → List ℕ
named word name = word ++ codes " " ++ name

abbrev pub what_text : What → List ℕ
what_text Bound = codes "bound"
what_text Bits = codes "bits"
what_text Instances = codes "instances"
what_text Pins = codes "pins"
what_text Assigns = codes "assigns"
what_text Arcs = codes "arcs"

abbrev pub job_text : JobFault → List ℕ
job_text Toml = codes "toml"
job_text (Key path) = named (codes "key") path
job_text (Range path) = named (codes "range") path
job_text (Double path) = named (codes "double") path
job_text (SameName name) = named (codes "samename") name

abbrev pub lex_text : LexFault → List ℕ
lex_text (BadByte at) = placed (codes "badbyte") at
lex_text (OpenComment at) = placed (codes "opencomment") at
lex_text (OpenName at) = placed (codes "openname") at

abbrev pub verilog_text : VerilogFault → List ℕ
verilog_text (Lex fault) = lex_text fault
verilog_text (Syntax at) = placed (codes "syntax") at
verilog_text (LeftOut word at) = placed (named (codes "leftout") word) at
verilog_text (DoubleName name) = named (codes "doublename") name
verilog_text (BadPort name) = named (codes "badport") name
verilog_text (BadBit name) = named (codes "badbit") name
verilog_text (Limit what) = named (codes "limit") (what_text what)

abbrev pub roles_text : RoleFault → List ℕ
roles_text (RoleLimit what) = named (codes "limit") (what_text what)
roles_text (NoRole kind) = named (codes "norole") kind
roles_text (BadPin inst pin) = named (named (codes "badpin") inst) pin
roles_text (DoubleDriver net) = named (codes "doubledriver") net
roles_text (AssignRing net) = named (codes "assignring") net

abbrev pub pins_text : List (List ℕ) → List ℕ
pins_text pins = flat_map (λ pin. codes " " ++ pin) pins

abbrev pub build_text : BuildFault → List (List ℕ) → List ℕ
build_text (Unknown path) pins = named (codes "unknown") path
build_text (GraphLimit what) pins = named (codes "limit") (what_text what)
build_text (Cycle cycle) pins = codes "cycle" ++ pins_text pins

abbrev pub sdf_text : SdfFault → List ℕ
sdf_text (BadGroup at) = placed (codes "syntax") at
sdf_text (WordLeftOut word at) = placed (named (codes "leftout") word) at
sdf_text (Number at) = placed (codes "number") at

abbrev pub refusal_text : Refusal → List ℕ
refusal_text (TooLong file) = named (codes "toolong") file
refusal_text (Job fault) = named (codes "job") (job_text fault)
refusal_text (Verilog fault) = named (codes "verilog") (verilog_text fault)
refusal_text (Roles fault) = named (codes "roles") (roles_text fault)
refusal_text (Build fault pins) = build_text fault pins
refusal_text (Sdf corner fault) = named (placed (codes "sdf") corner.0) (sdf_text fault)

abbrev pub refusal_line : Refusal → List ℕ
refusal_line refusal = codes "input " ++ refusal_text refusal ++ codes "\n"
