use Rattle.flatten.proofs.Writing.{no_room, wrote_all}
use Rattle.flatten.proofs.entry.write_group.Goals as goal

pub returns-then-room-put_group : goal.returns-then-room-put_group
returns-then-room-put_group c = no_room _ _ c.min-room.ensures c.put_group.ensures.put c.if-room-put_group.true

pub returns : goal.returns
returns c = wrote_all _ _ c.min-room.ensures c.put_group.ensures.put c.if-room-put_group.false c.put_group-2.ensures.put
