use Rattle.std.proofs.Common.{◌-◌, ◌*◌, ◌/◌, arith}
use Rattle.vortex_arrays_buffer.proofs.Placed.{all_placed, room_before, room_inside, room_behind, placed_in_turn}
use Rattle.vortex_arrays_buffer.proofs.places.place_all.Goals as goal

pub returns-then-last-first-clause-placed : goal.returns-then-last-first-clause-placed
returns-then-last-first-clause-placed c =
    all_placed c.args.bytes.now c.args.start (c.args.end - c.args.start) (c.args.start - c.args.start) c.args.places.now c.place_bits.new.places c.place_bits.result (omega arith) c.requires.room c.place_bits.ensures

pub place_bits-before-requires-clause-room : goal.place_bits-before-requires-clause-room
place_bits-before-requires-clause-room c =
    room_before c.args.bytes.now c.args.start (8 * c.div_ceil-first.result) (8 * (c.args.end / 8 - c.div_ceil-first.result)) (8 * (c.args.end / 8)) c.args.end c.args.places.now (omega arith) (omega arith) (omega arith) c.requires.room

pub place_bytes-inside-requires-clause-room : goal.place_bytes-inside-requires-clause-room
place_bytes-inside-requires-clause-room c =
    room_inside c.args.bytes.now c.args.start (8 * c.div_ceil-first.result) (8 * (c.args.end / 8 - c.div_ceil-first.result)) (8 * (c.args.end / 8)) c.args.end c.place_bits-before.result c.args.places.now c.place_bits-before.new.places
    (c.args.start - c.args.start) (omega arith) (omega arith) (omega arith) c.requires.room c.place_bits-before.ensures

pub place_bits-requires-2-clause-room : goal.place_bits-requires-2-clause-room
place_bits-requires-2-clause-room c =
    room_behind c.args.bytes.now c.args.start (8 * c.div_ceil-first.result) (8 * (c.args.end / 8 - c.div_ceil-first.result)) (8 * (c.args.end / 8)) c.args.end c.place_bits-before.result c.place_bytes-inside.result c.args.places.now c.place_bits-before.new.places c.place_bytes-inside.new.places
    (c.args.start - c.args.start) (8 * c.div_ceil-first.result - c.args.start) (omega arith) (omega arith) (omega arith) c.requires.room c.place_bits-before.ensures c.place_bytes-inside.ensures

pub returns-clause-placed : goal.returns-clause-placed
returns-clause-placed c =
    placed_in_turn c.args.bytes.now c.args.start (8 * c.div_ceil-first.result) (8 * (c.args.end / 8 - c.div_ceil-first.result)) (8 * (c.args.end / 8)) c.args.end (c.args.start - c.args.start)
    c.args.places.now c.place_bits-before.new.places c.place_bytes-inside.new.places c.place_bits-2.new.places c.place_bits-before.result c.place_bytes-inside.result c.place_bits-2.result
    (omega arith) (omega arith) (omega arith) (omega arith) c.requires.room c.place_bits-before.ensures c.place_bytes-inside.ensures c.place_bits-2.ensures
