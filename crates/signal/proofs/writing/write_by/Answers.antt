use Rattle.std.proofs.Common.{refl}
use Rattle.signal.specs.Frame.{frame_bytes, frame_bytes_by}
use Rattle.signal.specs.declared.frame.Frame.{Frame}
use Rattle.signal.specs.declared.frame.Frame.TheVariants.{Hello, Data, Ack, Refuse}
use Rattle.signal.proofs.Appended.{written_as}
use Rattle.signal.proofs.writing.write_by.Goals as goal

pub returns-in-Hello-clause-written : goal.returns-in-Hello-clause-written
returns-in-Hello-clause-written c =
    written_as (frame_bytes_by c.args.version) c.args.frame.now (Hello c.in-Hello.hello) c.hello_bytes.result c.args.bytes.now.items c.append.new.bytes.items c.append.result
    c.in-Hello.is c.hello_bytes.ensures c.append.ensures.written

pub returns-in-Data-clause-written : goal.returns-in-Data-clause-written
returns-in-Data-clause-written c =
    let told : Frame = Data c.in-Data.incarnation c.in-Data.number c.in-Data.signal in
    written_as (frame_bytes_by c.args.version) c.args.frame.now told (frame_bytes told) c.args.bytes.now.items c.write_data.new.bytes.items c.write_data.result
    c.in-Data.is refl c.write_data.ensures.written

pub returns-in-Ack-clause-written : goal.returns-in-Ack-clause-written
returns-in-Ack-clause-written c =
    written_as (frame_bytes_by c.args.version) c.args.frame.now (Ack c.in-Ack.incarnation c.in-Ack.last_taken) c.ack_bytes.result c.args.bytes.now.items c.append-in-Ack.new.bytes.items c.append-in-Ack.result
    c.in-Ack.is c.ack_bytes.ensures c.append-in-Ack.ensures.written

pub returns-in-Refuse-clause-written : goal.returns-in-Refuse-clause-written
returns-in-Refuse-clause-written c =
    written_as (frame_bytes_by c.args.version) c.args.frame.now (Refuse c.in-Refuse.incarnation c.in-Refuse.refusal) c.refuse_bytes.result c.args.bytes.now.items c.append-in-Refuse.new.bytes.items c.append-in-Refuse.result
    c.in-Refuse.is c.refuse_bytes.ensures c.append-in-Refuse.ensures.written
