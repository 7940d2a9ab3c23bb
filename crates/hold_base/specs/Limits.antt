-- The limits that this project sets to what it reads, each the most that may be. The code has those that it asks for in
-- `hold_base::limits`.
--
-- time_limit: the magnitude of a time, 10^10 fs. launch_limit: that of a launch, which is a clock arrival and a delay,
--   2 * 10^10 fs.
-- bound_limit: a bound of a range, 2^20 - 1.
-- bits_limit, insts_limit, pins_limit, assigns_limit: the net bits (2^25), instances (2^25), pins (2^26) and assigned bits (2^25)
--   of a netlist.
-- file_limit: the bytes of a job, a netlist, an SDF file or a plan, 2^26.
-- name_limit: the bytes of a name in a job, 4,096. corner_name_limit: those of a corner's name, 64.
-- types_limit: the cell types of a job, 4,096.
-- bound_bits_limit, bound_insts_limit, bound_pins_limit: the net bits (2^21), instances (2^18) and pins (2^20) of a netlist whose
--   cells have roles.
-- arcs_limit: the arcs of a timing graph, 2^22.
-- corners_limit, kinds_limit: the corners and the kinds of buffers of a job, 8 each. cost_limit: the cost of one buffer, 10^6.
-- chain_limit: the buffers at one site, 16.
use Rattle.std.specs.Prelude.{ℕ}

abbrev pub time_limit : ℕ
time_limit = 10000000000

abbrev pub launch_limit : ℕ
launch_limit = 20000000000

abbrev pub bound_limit : ℕ
bound_limit = 1048575

abbrev pub bits_limit : ℕ
bits_limit = 33554432

abbrev pub insts_limit : ℕ
insts_limit = 33554432

abbrev pub pins_limit : ℕ
pins_limit = 67108864

abbrev pub assigns_limit : ℕ
assigns_limit = 33554432

abbrev pub file_limit : ℕ
file_limit = 67108864

abbrev pub name_limit : ℕ
name_limit = 4096

abbrev pub corner_name_limit : ℕ
corner_name_limit = 64

abbrev pub types_limit : ℕ
types_limit = 4096

abbrev pub bound_bits_limit : ℕ
bound_bits_limit = 2097152

abbrev pub bound_insts_limit : ℕ
bound_insts_limit = 262144

abbrev pub bound_pins_limit : ℕ
bound_pins_limit = 1048576

abbrev pub arcs_limit : ℕ
arcs_limit = 4194304

abbrev pub corners_limit : ℕ
corners_limit = 8

abbrev pub kinds_limit : ℕ
kinds_limit = 8

abbrev pub cost_limit : ℕ
cost_limit = 1000000

abbrev pub chain_limit : ℕ
chain_limit = 16
