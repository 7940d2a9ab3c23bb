-- The limits that a job alone has, and what it says where keys are missing.
--
-- nodes_limit: the cuts of the search. searchers_limit: the searchers. order_limit: the number that the order of their turns is drawn from.
-- usual_chain, usual_nodes, usual_searchers, usual_order: the chain limit, the cuts, the searchers and that number where the job says nothing.
use Rattle.std.specs.Prelude.{ℕ}

abbrev pub nodes_limit : ℕ
nodes_limit = 1000000

abbrev pub searchers_limit : ℕ
searchers_limit = 8

abbrev pub order_limit : ℕ
order_limit = 9223372036854775807

abbrev pub usual_chain : ℕ
usual_chain = 4

abbrev pub usual_nodes : ℕ
usual_nodes = 10000

abbrev pub usual_searchers : ℕ
usual_searchers = 1

abbrev pub usual_order : ℕ
usual_order = 0
