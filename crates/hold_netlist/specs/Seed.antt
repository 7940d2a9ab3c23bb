-- A seed is what the hashes of a table of names go on from. What a table answers doesn't depend on it.
--
-- start_of seed: the state of the hasher that each hash goes on from.
use Rattle.std.specs.Hash.DefaultHasher as sip
use Rattle.std.specs.declared.hash.DefaultHasher.{DefaultHasher}
use Rattle.hold_netlist.specs.declared.seed.Seed.{Seed}

abbrev pub start_of : Seed → DefaultHasher
start_of seed = seed.start
