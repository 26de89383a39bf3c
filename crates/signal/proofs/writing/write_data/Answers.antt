use Rattle.std.proofs.lemmas.Result.{on_ok_weaker, on_err_weaker}
use Rattle.signal.proofs.Appended.{data_whole, extends_more}
use Rattle.signal.proofs.writing.write_data.Goals as goal

pub returns-clause-written : goal.returns-clause-written
returns-clause-written c =
    on_ok_weaker c.write_signal.result
    (data_whole c.args.bytes.now.items c.append.new.bytes.items c.write_signal.new.bytes.items c.data_head.result c.args.incarnation c.args.number c.size_of.result c.args.signal
    c.in_ok-append.ensures.written c.data_head.ensures c.size_of.ensures.size)
    c.write_signal.ensures.written

pub returns-clause-extended : goal.returns-clause-extended
returns-clause-extended c =
    on_err_weaker c.write_signal.result (extends_more c.args.bytes.now.items c.append.new.bytes.items c.write_signal.new.bytes.items c.data_head.result c.in_ok-append.ensures.written) c.write_signal.ensures.extended
