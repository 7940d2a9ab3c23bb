-- The line that says why an input is refused.
--
-- placed word at: a word and a place, which counts bytes from 0. named word name: a word and a name.
-- lex_text fault: what is said of a text that has no tokens from some place on.
-- what_text what: what passes its limit.
-- verilog_text fault: what is said of a netlist's text that isn't read: a word for the cause, and then the place, the
--   name, the left-out word with its place, or what passes its limit.
-- refusal_text fault: what is said of a refusal behind `input `. refusal_line fault: the whole line.
use Rattle.std.specs.Prelude.{ℕ, List, ◌++◌, codes, decimal}
use Rattle.hold_base.specs.declared.stop.What.{What}
use Rattle.hold_base.specs.declared.stop.What.TheVariants.{Bound, Bits, Instances, Pins, Assigns, Arcs}
use Rattle.hold_vlex.specs.declared.fault.LexFault.{LexFault}
use Rattle.hold_vlex.specs.declared.fault.LexFault.TheVariants.{BadByte, OpenComment, OpenName}
use Rattle.hold_vparse.specs.declared.fault.VerilogFault.{VerilogFault}
use Rattle.hold_vparse.specs.declared.fault.VerilogFault.TheVariants.{Lex, Syntax, LeftOut, DoubleName, BadPort, BadBit, Limit}
use Rattle.hold_cli.specs.declared.outcome.Fault.{Fault}
use Rattle.hold_cli.specs.declared.outcome.Fault.TheVariants.{TooLong, Verilog, NotBuilt}

abbrev pub placed : List ℕ → ℕ → List ℕ
placed word at = word ++ codes " " ++ decimal at

abbrev pub named : List ℕ → List ℕ → List ℕ
named word name = word ++ codes " " ++ name

abbrev pub lex_text : LexFault → List ℕ
lex_text (BadByte at) = placed (codes "badbyte") at
lex_text (OpenComment at) = placed (codes "opencomment") at
lex_text (OpenName at) = placed (codes "openname") at

abbrev pub what_text : What → List ℕ
what_text Bound = codes "bound"
what_text Bits = codes "bits"
what_text Instances = codes "instances"
what_text Pins = codes "pins"
what_text Assigns = codes "assigns"
what_text Arcs = codes "arcs"

abbrev pub verilog_text : VerilogFault → List ℕ
verilog_text (Lex fault) = lex_text fault
verilog_text (Syntax at) = placed (codes "syntax") at
verilog_text (LeftOut word at) = placed (named (codes "leftout") word) at
verilog_text (DoubleName name) = named (codes "doublename") name
verilog_text (BadPort name) = named (codes "badport") name
verilog_text (BadBit name) = named (codes "badbit") name
verilog_text (Limit what) = named (codes "limit") (what_text what)

abbrev pub refusal_text : Fault → List ℕ
refusal_text (TooLong file) = named (codes "toolong") file
refusal_text (Verilog fault) = named (codes "verilog") (verilog_text fault)
refusal_text (NotBuilt file) = named (codes "notbuilt") file

abbrev pub refusal_line : Fault → List ℕ
refusal_line fault = codes "input " ++ refusal_text fault ++ codes "\n"
