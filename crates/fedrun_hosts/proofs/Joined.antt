-- What a federate's node leaves is what some node leaves.
use Rattle.std.proofs.Common.{ℕ, Bool, List, Option, Result, Ok, Err, OnOk, inr}
use Rattle.fedrun_files.specs.Contents.{Contents}
use Rattle.files_saving.specs.Contents.{Contents as Saved}
use Rattle.fedrun_hosts.specs.declared.request.NodeRequest.{NodeRequest}
use Rattle.fedrun_hosts.specs.Ended.{HasJoined, HasEnded}

pub ended_by_join : {T E : Type 0} (contents : Contents) (known : Bool) (Holds : List ℕ → List ℕ → Type 0) (n : NodeRequest) (name : List ℕ) (before after : Option Saved) (r : Result T E) →
    OnOk r (HasJoined contents known Holds n name before after) → OnOk r (HasEnded contents known Holds before after)
ended_by_join contents known Holds n name before after (Ok x) holds = (n, inr (name, holds))
ended_by_join contents known Holds n name before after (Err e) holds = tt
