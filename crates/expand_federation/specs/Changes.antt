-- What is changed in a text, and what the text is then.
use Rattle.std.specs.Prelude.{◌≡◌, ℕ, ◌-◌, List, [], ◌∷◌, ◌++◌, take, drop, codes, flat_map}
use Rattle.expand_bodies.specs.declared.names.BodyNames.{BodyNames}
use Rattle.expand_bodies.specs.Expanded.{AreScratchNames, IsExpanded}
use Rattle.expand_federation.specs.declared.change.Joint.{Joint}
use Rattle.expand_federation.specs.declared.change.Joint.TheVariants.{First, BehindState, BehindComma, NoList}
use Rattle.expand_federation.specs.declared.change.Added.{Added}
use Rattle.expand_federation.specs.declared.change.Added.TheVariants.{Body, States}
use Rattle.expand_federation.specs.declared.change.Change.{Change}

-- a line of a body, in quotes, on a line of its own
abbrev pub line_text : List ℕ → List ℕ
line_text line = codes "\n  \"" ++ (line ++ codes "\",")

-- the lines of a body
abbrev pub body_text : List (List ℕ) → List ℕ
body_text lines = flat_map line_text lines ++ codes "\n"

-- what stands before each state that is added, and behind it
abbrev pub before_state : Joint → List ℕ
before_state First = codes " "
before_state BehindState = codes ", "
before_state BehindComma = codes "\n  "
before_state NoList = codes "\n  "

abbrev pub behind_state : Joint → List ℕ
behind_state First = codes ","
behind_state BehindState = []
behind_state BehindComma = codes ","
behind_state NoList = codes ","

-- a state that is 0 at first
unfoldable pub state_text : Joint → List ℕ → List ℕ
state_text joint name =
    before_state joint ++ (codes "{ name = \"" ++ (name ++ (codes "\", value = 0 }" ++ behind_state joint)))

-- what stands before all of them, and behind them: the list, where there is none
abbrev pub list_front : Joint → List ℕ
list_front First = []
list_front BehindState = []
list_front BehindComma = []
list_front NoList = codes "state = ["

abbrev pub list_end : Joint → List ℕ
list_end First = []
list_end BehindState = []
list_end BehindComma = []
list_end NoList = codes "\n]\n"

-- states that are added
abbrev pub states_text : Joint → List (List ℕ) → List ℕ
states_text joint names = list_front joint ++ (flat_map (state_text joint) names ++ list_end joint)

-- what is put in: the expansion of a body; or scratch states
abbrev pub IsAdded : BodyNames → Added → List ℕ → Type 0
IsAdded names (Body lines) text =
    (texts : List (List ℕ)) × IsExpanded names lines.now texts × (text ≡ body_text texts)
IsAdded names (States joint count) text =
    (scratch : List (List ℕ)) × AreScratchNames names.states scratch × (text ≡ states_text joint scratch)

-- What a text is with its changes, in the order of their places: what stands before the first of them, what is put in
-- for it, and so on. This many bytes stand before the text.
abbrev pub IsChanged : ℕ → List ℕ → List Change → List ℕ → Type 0
IsChanged before text [] new = new ≡ text
IsChanged before text (change ∷ changes) new =
    (added rest : List ℕ) × (new ≡ take (change.from - before) text ++ (added ++ rest))
    × IsAdded change.names.now change.added added
    × IsChanged change.to (drop (change.to - before) text) changes rest
