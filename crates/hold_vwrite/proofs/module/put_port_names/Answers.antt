use Rattle.std.proofs.Common.{sym}
use Rattle.hold_vwrite.proofs.Lists.{joined_ports}
use Rattle.hold_vwrite.proofs.module.put_port_names.Goals as goal

pub returns-in_ok-put_name-in-len1-up : goal.returns-in_ok-put_name-in-len1-up
returns-in_ok-put_name-in-len1-up c = rw (sym (joined_ports c.args.out.now.items c.put_name.new.out.items c.args.ports.now c.first-item.result c.in-len1-up.len_at_least c.first-item.is c.in_ok-put_name-in-len1-up.ensures)) c.put_more_ports.ensures
