use Rattle.script_heap.proofs.RoomLaws.{lines_find_room}
use Rattle.script_heap.proofs.laws.lines_find_room.Goals as goal

pub returns : goal.returns
returns c = lines_find_room
