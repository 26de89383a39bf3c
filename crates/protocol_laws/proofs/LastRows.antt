-- What a federate completed last is the tag of its last row.
use Rattle.std.proofs.Common.{◌≡◌, ℕ, List, [], ◌∷◌, ◌++◌, refl, sym, ap, ◌∙◌, Option, None, Some}
use Rattle.std.specs.Prelude.{map}
use Rattle.std.specs.List.{last_or}
use Rattle.std.specs.Option.{option_map}
use Rattle.std.proofs.lemmas.List.{append-nil, append_assoc, reverse-append}
use Rattle.network.specs.Network.{Network}
use Rattle.network.specs.Undivided.{Row}
use Rattle.network.specs.Lawful.{IsLawful}
use Rattle.network.specs.Tables.{Table, IsAtMostEveryPath}
use Rattle.network_laws.specs.History.{Turn, turn_of_row, history_of}
use Rattle.protocol.specs.Grant.{Rule, IsSafeRule}
use Rattle.protocol.specs.Machine.{Move, after_moves}
use Rattle.protocol.specs.KeptAlone.{last_row_tag}
use Rattle.protocol_laws.proofs.Replay.{newest_tag, moves_replay}

abbrev turns_of : Option Row → List Turn
turns_of None = []
turns_of (Some row) = turn_of_row row ∷ []

newest_of : (turns : List Turn) (turn : Turn) (more : List Turn) → newest_tag (turns ++ turn ∷ more) ≡ newest_tag (turns ++ turn ∷ [])
newest_of [] turn more = refl
newest_of (x ∷ rest) turn more = refl

newest_by : (o : Option Row) (rows : List Row) → newest_tag (history_of rows ++ turns_of o) ≡ option_map (λ row. row.tag) (last_or o rows)
newest_by None [] = refl
newest_by (Some row) [] = refl
newest_by o (row ∷ rest) =
    let first : history_of (row ∷ rest) ≡ history_of rest ++ turn_of_row row ∷ [] = reverse-append (turn_of_row row ∷ []) (map turn_of_row rest) in
    ap (λ (x : List Turn). newest_tag (x ++ turns_of o)) first ∙
    ap newest_tag (append_assoc (history_of rest) (turn_of_row row ∷ []) (turns_of o)) ∙
    newest_of (history_of rest) (turn_of_row row) (turns_of o) ∙ newest_by (Some row) rest

last_is_newest : (rows : List Row) → last_row_tag rows ≡ newest_tag (history_of rows)
last_is_newest rows = sym (newest_by None rows) ∙ ap newest_tag (append-nil (history_of rows))

-- after every list of moves
pub moves_end : (n : Network) (table : Table) (rules : ℕ → Rule) (moves : List Move) (j : ℕ) → IsLawful n → IsAtMostEveryPath n table → ((k : ℕ) → IsSafeRule n table (rules k)) → (after_moves n rules moves j).federate.completed ≡ last_row_tag (after_moves n rules moves j).federate.rows
moves_end n table rules moves j lawful facts safe =
    (moves_replay n table rules moves lawful facts safe j).newest ∙ sym (last_is_newest (after_moves n rules moves j).federate.rows)
