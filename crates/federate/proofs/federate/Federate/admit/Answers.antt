use Rattle.signal.specs.declared.signal.Signal.TheVariants.{Tag, Msg}
use Rattle.federate.proofs.Calls.{admitted_alone}
use Rattle.federate.proofs.federate.Federate.admit.Goals as goal

pub returns-in-Tag-clause-alone : goal.returns-in-Tag-clause-alone
returns-in-Tag-clause-alone c =
    admitted_alone c.args.self.now (Tag c.in-Tag.tag) c.admit_grant.result c.invariant.ensures c.admit_grant.ensures.known c.admit_grant.ensures.outcome

pub returns-in-Msg-clause-alone : goal.returns-in-Msg-clause-alone
returns-in-Msg-clause-alone c =
    admitted_alone c.args.self.now (Msg c.in-Msg.connection c.in-Msg.tag _) c.admit_message.result c.invariant.ensures
    c.admit_message.ensures.known c.admit_message.ensures.outcome
