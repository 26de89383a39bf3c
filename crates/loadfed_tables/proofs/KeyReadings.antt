-- What one reading of a key says of another.
use Rattle.std.proofs.Common.{◌≡◌, ◌⊎◌, inl, inr, ℕ, ℤ, ◌<◌, ◌≤◌, ◌+◌, ◌^◌, zero, suc, List, [], ◌∷◌, ◌++◌, map, length, get_or, take, Option, Some, None, Result, Ok, Err, true, false, IsTrue, String, Global, Bor, string_bytes, refl, sym, ap, ◌∙◌, subst, arith}
use Rattle.std.specs.Prelude.{pos, slice_get, All, Contains, IsSome, IfSome, IfOk, IfErr}
use Rattle.std.proofs.lemmas.List.{take_more, take_all, map-append}
use Rattle.std.proofs.lemmas.List.Elements.{All-map}
use Rattle.std.specs.Map.{keys_of}
use Rattle.std.specs.Map.Iter.{deref}
use Rattle.tag_text.specs.Duration.{Spells}
use Rattle.tag_text.specs.declared.duration.DurationFault.{DurationFault}
use Rattle.plan_names.specs.Spelling.{is_name}
use Rattle.toml.specs.Data.{Data, string, table, Members, get_member}
use Rattle.toml.specs.View.{view, members_view}
use Rattle.toml.specs.declared.value.Value.{Value}
use Rattle.loadfed_tables.specs.Tables.{keys_in, is_among, HasOnly, SaysText, SaysNumber, SaysName, SaysDuration, MaySay, SaysDurationOrZero, SaysMicrostep, SaysArray, SaysTexts, SaysNames, SaysTables}
use Rattle.loadfed_tables.specs.declared.fault.TableFault.{TableFault}
use Rattle.loadfed_tables.specs.declared.fault.TableFault.TheVariants.{WrongShape, Memory}
use Rattle.loadfed_tables.specs.TableFaults.{HasUnknownKey, IsWrongAt}
use Rattle.loadfed_tables.proofs.OneReading.{one_text, one_array, one_texts}

pub where_there : {X : Type 0} (Says : List ℕ → Members → X → Type 0) (key : List ℕ) (m : Members) (x : X) → Says key m x → (o : Option X) × MaySay Says key m o
where_there Says key m x h = (Some x, h)

pub number_of_microstep : (key : List ℕ) (m : Members) (x : ℕ) → SaysMicrostep key m x → (o : Option ℤ) × MaySay SaysNumber key m o
number_of_microstep key m x (inl h) = (None, h.0)
number_of_microstep key m x (inr h) = (Some (pos x), h.0)

pub text_of_duration : (key : List ℕ) (m : Members) (x : Option ℕ) → MaySay SaysDuration key m x → (o : Option (List ℕ)) × MaySay SaysText key m o
text_of_duration key m None h = (None, h)
text_of_duration key m (Some x) h = (Some h.0, h.1)

pub duration_or_none : (key : List ℕ) (m : Members) (x : ℕ) → SaysDurationOrZero key m x → (o : Option ℕ) × MaySay SaysDuration key m o
duration_or_none key m x (inl h) = (None, h.0)
duration_or_none key m x (inr h) = (Some x, h)

-- a text that spells no duration
pub no_duration : (key : List ℕ) (m : Members) (text : List ℕ) (r : Result ℕ DurationFault) (fault : DurationFault) → SaysText key m text → r ≡ Err fault
    → ((value : ℕ) → Spells text value → value < 2 ^ 62 → r ≡ Ok value) → (x : Option ℕ) → MaySay SaysDuration key m x → ⊥
no_duration key m text r fault says err exact None h = let e : None ≡ Some (string text) = sym h ∙ says in cc
no_duration key m text r fault says err exact (Some x) h =
    let P : List ℕ → Type 0 = λ t. Spells t x in
    let ok : r ≡ Ok x = exact x (subst P (one_text key m h.0 text h.1 says) h.2) h.3 in
    let e : Err fault ≡ Ok x = sym err ∙ ok in
    cc

-- a text that is no name
pub no_name : (key : List ℕ) (m : Members) (text : List ℕ) → SaysText key m text → is_name text ≡ false → (name : List ℕ) → SaysName key m name → ⊥
no_name key m text says other name h =
    let e : is_name name ≡ is_name text = ap is_name (one_text key m name text h.0 says) in
    let yes : is_name name ≡ true = h.1 in
    cc

-- texts that are not all names
pub no_names : (key : List ℕ) (m : Members) (texts : List (List ℕ)) → SaysTexts key m texts → (All (λ name. IsTrue (is_name name)) texts → ⊥)
    → (names : List (List ℕ)) → SaysNames key m names → ⊥
no_names key m texts says none names h =
    let same = one_texts key m names texts h.0 says in
    none (subst (λ v. All (λ name. IsTrue (is_name name)) v) same h.1)

pub view_at : (values : List Value) (i : ℕ) (v : Value) → i < length values → v ≡ get_or values i v → slice_get (map view values) i ≡ Some (view v)
view_at [] i v low is = absurd (omega arith)
view_at (w ∷ values) zero v low is = ap (λ x. Some (view x)) (sym is)
view_at (w ∷ values) (suc i) v low is = view_at values i v (omega arith) is

strings_at : (ts : List (List ℕ)) (i : ℕ) (d : Data) → slice_get (map string ts) i ≡ Some d → (t : List ℕ) × (d ≡ string t)
strings_at [] i d e = let no : ⊥ = cc in absurd no
strings_at (t ∷ ts) zero d e = let same : d ≡ string t = cc in (t, same)
strings_at (t ∷ ts) (suc i) d e = strings_at ts i d e

tables_at : (ts : List Members) (i : ℕ) (d : Data) → slice_get (map table ts) i ≡ Some d → (t : Members) × (d ≡ table t)
tables_at [] i d e = let no : ⊥ = cc in absurd no
tables_at (t ∷ ts) zero d e = let same : d ≡ table t = cc in (t, same)
tables_at (t ∷ ts) (suc i) d e = tables_at ts i d e

-- an entry of an array of texts is a text
pub text_entry : (key : List ℕ) (m : Members) (values : List Value) (i : ℕ) (v : Value) → SaysArray key m (map view values) → i < length values → v ≡ get_or values i v
    → (texts : List (List ℕ)) → SaysTexts key m texts → (t : List ℕ) × (view v ≡ string t)
text_entry key m values i v says low is texts h =
    let same = one_array key m (map view values) (map string texts) says h in
    strings_at texts i (view v) (subst (λ ds. slice_get ds i ≡ Some (view v)) same (view_at values i v low is))

-- an entry of an array of tables is a table
pub table_entry : (key : List ℕ) (m : Members) (values : List Value) (i : ℕ) (v : Value) → SaysArray key m (map view values) → i < length values → v ≡ get_or values i v
    → (tables : List Members) → SaysTables key m tables → (t : Members) × (view v ≡ table t)
table_entry key m values i v says low is tables h =
    let same = one_array key m (map view values) (map table tables) says h in
    tables_at tables i (view v) (subst (λ ds. slice_get ds i ≡ Some (view v)) same (view_at values i v low is))

pub array_of_texts : (key : List ℕ) (m : Members) (texts : List (List ℕ)) → SaysTexts key m texts → (ds : List Data) × SaysArray key m ds
array_of_texts key m texts h = (map string texts, h)

pub array_of_tables : (key : List ℕ) (m : Members) (tables : List Members) → SaysTables key m tables → (ds : List Data) × SaysArray key m ds
array_of_tables key m tables h = (map table tables, h)

pub texts_all : (key : List ℕ) (m : Members) (values : List Value) (texts : List (List ℕ)) (i : ℕ) → SaysArray key m (map view values)
    → map view (take i values) ≡ map string texts → length values ≤ i → SaysTexts key m texts
texts_all key m values texts i says read all =
    let same : map view values ≡ map string texts = sym (ap (map view) (take_all i values all)) ∙ read in
    subst (λ ds. SaysArray key m ds) same says

pub unknown_told : (known : List (List ℕ)) (m : Members) (key : List ℕ) (fault : TableFault) → Contains (keys_in m) key → is_among known key ≡ false
    → (fault ≡ Memory) ⊎ (fault ≡ WrongShape key) → (fault ≡ Memory) ⊎ HasUnknownKey known m fault
unknown_told known m key fault there other (inl memory) = inl memory
unknown_told known m key fault there other (inr is) = inr (record { key = key; told = is; there = there; unknown = other })

-- one more entry
pub views_more : (values : List Value) (i : ℕ) (v : Value) → i < length values → v ≡ get_or values i v
    → map view (take (i + 1) values) ≡ map view (take i values) ++ view v ∷ []
views_more values i v low is =
    ap (map view) (take_more values i v low) ∙ map-append view (take i values) (get_or values i v ∷ []) ∙ ap (λ x. map view (take i values) ++ view x ∷ []) (sym is)

pub texts_more : (values : List Value) (texts : List (List ℕ)) (i : ℕ) (v : Value) (text : List ℕ) → i < length values → v ≡ get_or values i v
    → map view (take i values) ≡ map string texts → view v ≡ string text → map view (take (i + 1) values) ≡ map string (texts ++ text ∷ [])
texts_more values texts i v text low is so_far this =
    views_more values i v low is ∙ ap (λ x. x ++ view v ∷ []) so_far ∙ ap (λ x. map string texts ++ x ∷ []) this ∙ sym (map-append string texts (text ∷ []))

-- the keys of a table that is read
keys_view : (es : List (String Global × Value)) → keys_in (members_view es) ≡ map (λ k. string_bytes k) (keys_of es)
keys_view [] = refl
keys_view (e ∷ es) = ap (λ x. string_bytes e.0 ∷ x) (keys_view es)

contains_key : (ks : List (String Global)) (i : ℕ) (k : String Global) → slice_get ks i ≡ Some k → Contains (map (λ x. string_bytes x) ks) (string_bytes k)
contains_key [] i k e = let no : ⊥ = cc in absurd no
contains_key (x ∷ ks) zero k e = let same : x ≡ k = cc in (0, omega arith, ap (λ v. string_bytes v) same)
contains_key (x ∷ ks) (suc i) k e =
    let more = contains_key ks i k e in
    let low = more.1 in
    (suc more.0, omega arith, more.2)

pub key_there : (es : List (String Global × Value)) (i : ℕ) (k : String Global) → slice_get (keys_of es) i ≡ Some k → Contains (keys_in (members_view es)) (string_bytes k)
key_there es i k e = rw (keys_view es) (contains_key (keys_of es) i k e)

abbrev pub IsKnown : List (List ℕ) → Bor (String Global) → Type 0
IsKnown known key = IsTrue (is_among known (string_bytes key.now))

pub all_known : (known : List (List ℕ)) (es : List (String Global × Value)) (ys : List (Bor (String Global))) → map deref ys ≡ keys_of es → All (IsKnown known) ys
    → HasOnly known (members_view es)
all_known known es ys same h =
    let P : List ℕ → Type 0 = λ key. IsTrue (is_among known key) in
    let Q : String Global → Type 0 = λ key. P (string_bytes key) in
    rw (keys_view es, ← same) (All-map P (λ k. string_bytes k) (map deref ys) (All-map Q deref ys h))

-- where something of another kind stands, none of this kind does
pub other_kind : {X : Type 0} (make : X → Data) (key : List ℕ) (m : Members) (d : Data) → get_member key m ≡ Some d → ((x : X) → d ≡ make x → ⊥)
    → (o : Option X) → MaySay (λ key m x. get_member key m ≡ Some (make x)) key m o → ⊥
other_kind make key m d there other None h = let e : None ≡ Some d = sym h ∙ there in cc
other_kind make key m d there other (Some x) h = let e : Some d ≡ Some (make x) = sym there ∙ h in other x (cc e)

-- a time that was made of a duration
pub time_made : (key : List ℕ) (m : Members) (text : List ℕ) (nanoseconds : ℕ) (made : Option ℕ) → SaysText key m text
    → Spells text nanoseconds × (nanoseconds < 2 ^ 62) → (nanoseconds < 2 ^ 62 → IsSome made) → IfSome made (λ t. t ≡ nanoseconds)
    → MaySay SaysDuration key m made
time_made key m text nanoseconds None says spelled some same = let e : false ≡ true = some spelled.1 in cc
time_made key m text nanoseconds (Some t) says spelled some same =
    (text, says, subst (λ n. Spells text n) (sym same) spelled.0, subst (λ n. n < 2 ^ 62) (sym same) spelled.1)

-- a copy of a text that is a name
pub name_made : (key : List ℕ) (m : Members) (text : List ℕ) (r : Result (List ℕ) TableFault) → SaysText key m text → IfOk r (λ name. name ≡ text)
    → IfOk r (λ name. IsTrue (is_name name)) → IfOk r (λ name. SaysName key m name)
name_made key m text (Err fault) says copy named = tt
name_made key m text (Ok name) says copy named = (subst (λ t. SaysText key m t) (sym copy) says, named)

pub name_refused : (key : List ℕ) (m : Members) (text : List ℕ) (r : Result (List ℕ) TableFault) → SaysText key m text
    → IfErr r (λ fault. (fault ≡ Memory) ⊎ ((fault ≡ WrongShape key) × (is_name text ≡ false))) → IfErr r (λ fault. (fault ≡ Memory) ⊎ IsWrongAt key (SaysName key m) fault)
name_refused key m text (Ok name) says refused = tt
name_refused key m text (Err fault) says (inl memory) = inl memory
name_refused key m text (Err fault) says (inr other) = inr (record { told = other.0; nothing = no_name key m text says other.1 })

-- a copy of a text
pub text_made : (key : List ℕ) (m : Members) (text : List ℕ) (r : Result (List ℕ) TableFault) → SaysText key m text → IfOk r (λ copy. copy ≡ text)
    → IfOk r (λ copy. SaysText key m copy)
text_made key m text (Err fault) says copy = tt
text_made key m text (Ok t) says copy = subst (λ t. SaysText key m t) (sym copy) says

pub text_refused : (key : List ℕ) (m : Members) (r : Result (List ℕ) TableFault) → IfErr r (λ fault. fault ≡ Memory)
    → IfErr r (λ fault. (fault ≡ Memory) ⊎ IsWrongAt key (SaysText key m) fault)
text_refused key m (Ok t) memory = tt
text_refused key m (Err fault) memory = inl memory
