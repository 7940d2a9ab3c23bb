use Rattle.std.proofs.Common.{sym}
use Rattle.hold_vwrite.proofs.Lists.{joined_connections}
use Rattle.hold_vwrite.proofs.insts.put_connections.Goals as goal

pub returns-in_ok-put_connection-in-len1-up : goal.returns-in_ok-put_connection-in-len1-up
returns-in_ok-put_connection-in-len1-up c = rw (sym (joined_connections c.args.out.now.items c.put_connection.new.out.items c.args.netlist.now.wires c.args.pins.now c.first-item.result c.in-len1-up.len_at_least c.first-item.is c.in_ok-put_connection-in-len1-up.ensures)) c.put_more_connections.ensures
