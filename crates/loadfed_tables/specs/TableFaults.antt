-- What is wrong at a key of a table.
use Rattle.std.specs.Prelude.{◌≡◌, ℕ, false, List, Contains}
use Rattle.toml.specs.Data.{Members}
use Rattle.loadfed_tables.specs.declared.fault.TableFault.{TableFault}
use Rattle.loadfed_tables.specs.declared.fault.TableFault.TheVariants.{WrongShape}
use Rattle.loadfed_tables.specs.Tables.{keys_in, is_among}

-- nothing that may stand at the key stands there: it is missing, of another kind, or not of its form
pub record IsWrongAt {X : Type 0} (key : List ℕ) (Says : X → Type 0) (fault : TableFault) : Type 0 where
  pub told : fault ≡ WrongShape key
  pub nothing : (x : X) → Says x → ⊥

-- the table has a key that is none of these
pub record HasUnknownKey (known : List (List ℕ)) (members : Members) (fault : TableFault) : Type 0 where
  pub key : List ℕ
  pub told : fault ≡ WrongShape key
  pub there : Contains (keys_in members) key
  pub unknown : is_among known key ≡ false
