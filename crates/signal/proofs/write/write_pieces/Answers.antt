use Rattle.std.proofs.Common.{◌≡◌, ◌++◌, length, refl, arith}
use Rattle.std.proofs.lemmas.Bool.Decides.{nat_tests}
use Rattle.std.specs.List.{flat_map}
use Rattle.signal.specs.Pieces.{piece_bytes}
use Rattle.signal.proofs.Cutting.{cut_from}
use Rattle.signal.proofs.Appended.{nothing_more, extends_both}
use Rattle.signal.proofs.Taken.{piece_written, frames_join, all_done}
use Rattle.signal.proofs.write.write_pieces.Goals as goal

pub loop-left-init : goal.loop-left-init
loop-left-init c = record {
  most_is = grind (arith, nat_tests);
  completes = refl;
  extended = nothing_more c.args.bytes.now.items c.args.bytes.now.items refl;
  are_frames = λ h. h;
}

pub loop-left-preserved : goal.loop-left-preserved
loop-left-preserved c =
    let own = c.args.own in
    let most = c.if-own-ge-BATCHING.most in
    let left = c.loop-left.left.now in
    let piece = c.split_at.result.0.now in
    let behind = c.split_at.result.1.now in
    let old = c.args.bytes.now.items in
    let some = c.loop-left.bytes.items in
    let new = c.write_piece.new.bytes.items in
    let size = c.piece_size.result in
    record {
      most_is = c.loop-left.invariant.most_is;
      completes = piece_written own most size left piece behind some new (old ++ flat_map (piece_bytes own) (cut_from most most c.args.frames.now)) c.split_at.ensures.front c.split_at.ensures.back
          c.piece_size.ensures.within c.piece_size.ensures.few c.piece_size.ensures.stretch c.piece_size.ensures.longest c.in_ok-write_piece.ensures.written c.loop-left.invariant.completes;
      extended = extends_both old some new c.loop-left.invariant.extended (piece_bytes own piece, c.in_ok-write_piece.ensures.written);
      are_frames = λ others. c.loop-left.invariant.are_frames (frames_join size left piece behind c.split_at.ensures.front c.split_at.ensures.back c.in_ok-write_piece.ensures.are_frames others);
    }

pub returns-clause-written : goal.returns-clause-written
returns-clause-written c =
    let none : length c.loop-left.left.now ≡ 0 = grind (arith, nat_tests) in
    all_done c.args.own c.args.peer c.if-own-ge-BATCHING.most c.loop-left.bytes.items c.args.bytes.now.items c.loop-left.left.now c.args.frames.now none
    c.loop-left.invariant.most_is c.loop-left.invariant.completes
