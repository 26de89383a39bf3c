-- What the connections of a lawful network keep.
use Rattle.std.proofs.Common.{ℕ, List}
use Rattle.std.specs.Prelude.{Contains}
use Rattle.std.proofs.lemmas.List.Elements.{All-contains}
use Rattle.network.specs.Connection.{Connection, IsPath}
use Rattle.network.specs.Network.{Network}
use Rattle.network.specs.Lawful.{IsLawful, IsConnected}
use Rattle.network.proofs.Walks.{ArePlain}
use Rattle.network.proofs.ShortPaths.{Shortened, shortened}

pub contained_is : (n : Network) (c : Connection) → IsLawful n → Contains n.connections c → IsConnected n c
contained_is n c lawful within = All-contains (IsConnected n) n.connections c lawful.connected within

pub plain_of : (n : Network) → IsLawful n → ArePlain n.connections
plain_of n lawful c within = (contained_is n c lawful within).delay

pub short_path : (n : Network) (i j : ℕ) (path : List Connection) → IsLawful n → IsPath n.connections i path j → Shortened n.connections n.reactors i j path
short_path n i j path lawful is_path = shortened n.connections n.reactors (λ c within. (contained_is n c lawful within).target) (plain_of n lawful) i path j is_path
