-- What is saved under a name that was reserved, and what the temporary file says until then.
use Rattle.std.proofs.Common.{◌≡◌, ◌≢◌, ℕ, Bool, true, false, List, Option, None, Some, refl, sym, ◌∙◌, subst}
use Rattle.std.specs.Prelude.{bytes_eq}
use Rattle.std.proofs.lemmas.Slice.Eq.{bytes_eq-Decides}
use Rattle.files_saving.specs.Contents.{Contents, KnownOf, SameBut}
use Rattle.files_saving.specs.Saved.{IsCreated, IsWritten, IsReserved, IsSaved}

-- the temporary file is given other bytes
rewritten : (temporary name first second : List ℕ) (before reserved now : Contents) → IsReserved temporary name first before reserved → IsWritten temporary second reserved now →
    IsReserved temporary name second before now
rewritten temporary name first second before reserved now r w = record {
  name_is_free = r.name_is_free;
  created = record {
    was_free = r.created.was_free;
    bytes_are = w.bytes_are;
    others = λ other differs. w.others other differs ∙ r.created.others other differs;
  };
}

pub written_where_reserved : (temporary name first second : List ℕ) (before reserved now : Option Contents) → KnownOf before reserved (IsReserved temporary name first) →
    KnownOf reserved now (IsWritten temporary second) → KnownOf before now (IsReserved temporary name second)
written_where_reserved temporary name first second None reserved now r w = _
written_where_reserved temporary name first second (Some before) None now r w = absurd r
written_where_reserved temporary name first second (Some before) (Some reserved) None r w = absurd w
written_where_reserved temporary name first second (Some before) (Some reserved) (Some now) r w = rewritten temporary name first second before reserved now r w

module _ (temporary name held bytes : List ℕ) (other_name : temporary ≢ name) where
  -- from before the name was reserved, one file was made
  is_created : (before reserved saved : Contents) → IsReserved temporary name held before reserved → IsSaved temporary name bytes reserved saved → IsCreated name bytes before saved
  is_created before reserved saved r s = record { was_free = r.name_is_free; bytes_are = s.bytes_are; others = others }
    where
      by_name : (other : List ℕ) → other ≢ name → (same : Bool) → bytes_eq other temporary ≡ same → saved other ≡ before other
      by_name other differs true e =
          let is : other ≡ temporary = (bytes_eq-Decides other temporary).0 e in
          let here : saved temporary ≡ before temporary = s.gone ∙ sym r.created.was_free in
          subst (λ x. saved x ≡ before x) (sym is) here
      by_name other differs false e =
          let isnt : other ≢ temporary = λ is. absurd_by e ((bytes_eq-Decides other temporary).1 is) in
          s.others other isnt differs ∙ r.created.others other isnt
        where
          absurd_by : bytes_eq other temporary ≡ false → bytes_eq other temporary ≡ true → ⊥
          absurd_by isnt is = let both : false ≡ true = sym isnt ∙ is in cc

      others : SameBut name before saved
      others other differs = by_name other differs (bytes_eq other temporary) refl

  pub saved_where_reserved : (before reserved saved : Option Contents) → KnownOf before reserved (IsReserved temporary name held) → KnownOf reserved saved (IsSaved temporary name bytes) →
      KnownOf before saved (IsCreated name bytes)
  saved_where_reserved None reserved saved r s = _
  saved_where_reserved (Some before) None saved r s = absurd r
  saved_where_reserved (Some before) (Some reserved) None r s = absurd s
  saved_where_reserved (Some before) (Some reserved) (Some saved) r s = is_created before reserved saved r s
