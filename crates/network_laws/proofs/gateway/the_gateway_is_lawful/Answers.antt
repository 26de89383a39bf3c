use Rattle.network_laws.proofs.SmallNetwork.{gateway_is_lawful}
use Rattle.network_laws.proofs.gateway.the_gateway_is_lawful.Goals as goal

pub returns : goal.returns
returns c = gateway_is_lawful
