use Rattle.script_heap.proofs.RoomSeen.{lines_see_room, room_excludes}
use Rattle.script_heap.proofs.laws.lines_see_room.Goals as goal

pub returns-clause-room : goal.returns-clause-room
returns-clause-room c = lines_see_room

pub returns-clause-apart : goal.returns-clause-apart
returns-clause-apart c = room_excludes
