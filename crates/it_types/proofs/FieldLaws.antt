-- The two laws of a form, by those of its kinds.
use Rattle.std.proofs.Common.{◌≡◌, ℕ, Bool, true, false, ◌&&◌, List, [], ◌∷◌, ◌++◌, Some, is_some, codes, refl, sym, ap, subst, ◌∙◌, append_assoc, inl, inr}
use Rattle.std.specs.Prelude.{unwrap_or}
use Rattle.std.proofs.lemmas.Bool.{and_parts}
use Rattle.it_types.specs.Cursor.{and_then, after}
use Rattle.it_types.specs.Kinds.{Kind, Value, is_in_range, default}
use Rattle.it_types.specs.Fields.{Form, Fields, field_text, fields_text, are_in_range, Standing, field_at, fields_at}
use Rattle.it_types.proofs.ReadSteps.{some_or_none, read_step, found_is, after_takes}
use Rattle.it_types.proofs.KindLaws.{ends, kind_takes, kind_again}

-- what was read where all fields so far were in their ranges: those before were, these are, and the bytes begin with their text
pub record Took {V : Type 0} (text : V → List ℕ) (range : V → Bool) (s : Standing) (x : V × Standing) : Type 0 where
  pub fact : x.1.fits ≡ true → (s.fits ≡ true) × ((s.rest ≡ text x.0 ++ x.1.rest) × (range x.0 ≡ true))
  pub limit : x.1.limit ≡ s.limit

-- a field that is read
field_takes : (k : Kind) (s : Standing) (x : Value k × Standing) → field_at k s ≡ Some x → Took (field_text k) (is_in_range s.limit k) s x
unfolding field_at field_text
field_takes k s x e =
    read_step e λ bytes p e1. read_step e1 λ y q e2.
    let made : (unwrap_or y.0 (default k), record { limit = s.limit; fits = s.fits && is_some y.0; rest = y.1 }) ≡ x = found_is _ x e2 in
    subst (λ (z : Value k × Standing). Took (field_text k) (is_in_range s.limit k) s z) made (record {
      fact = λ fits.
          let parts = and_parts s.fits (is_some y.0) fits in (
            parts.0,
            elim (some_or_none y.0) [
              | inl v ↦
                  let took = (kind_takes s.limit k bytes y q).fact v.0 v.1 in
                  rw v.1 (after_takes (codes " ") s.rest bytes p ∙ ap (λ (t : List ℕ). 32 ∷ t) took.0, took.1)
              | inr none ↦ absurd (let f : false ≡ true = rw none at parts.1 in cc)
            ],
          );
      limit = refl;
    })

-- the fields of a form that are read
pub fields_take : (ks : Form) (s : Standing) (x : Fields ks × Standing) → fields_at ks s ≡ Some x → Took (fields_text ks) (are_in_range s.limit ks) s x
unfolding fields_at
fields_take [] s x e = subst (λ (z : Fields [] × Standing). Took (fields_text []) (are_in_range s.limit []) s z) (found_is (tt, s) x e) (record { fact = λ fits. (fits, (refl, refl)); limit = refl })
fields_take (k ∷ ks) s x e =
    read_step e λ one p e1. read_step e1 λ more q e2.
    let made : ((one.0, more.0), more.1) ≡ x = found_is ((one.0, more.0), more.1) x e2 in
    let first = field_takes k s one p in
    let others = fields_take ks one.1 more q in
    subst (λ (z : Fields (k ∷ ks) × Standing). Took (fields_text (k ∷ ks)) (are_in_range s.limit (k ∷ ks)) s z) made (record {
      fact = λ fits.
          let o = others.fact fits in
          let f = first.fact o.0 in
          let ranges : are_in_range s.limit ks more.0 ≡ true = ap (λ (l : ℕ). are_in_range l ks more.0) (sym first.limit) ∙ o.1.1 in (
            f.0,
            (
              f.1.0 ∙ ap (λ (t : List ℕ). field_text k one.0 ++ t) o.1.0 ∙ sym (append_assoc (field_text k one.0) (fields_text ks more.0) more.1.rest),
              rw (f.1.1, ranges) refl,
            ),
          );
      limit = others.limit ∙ first.limit;
    })

-- a form's text is empty or begins with a space
pub fields_end : (ks : Form) (fs : Fields ks) → ends (fields_text ks fs) ≡ true
unfolding field_text
fields_end [] fs = refl
fields_end (k ∷ ks) fs = refl

-- fields in their ranges are read again from their text
pub fields_again : (limit : ℕ) (ks : Form) (fs : Fields ks) → are_in_range limit ks fs ≡ true
    → fields_at ks (record { limit = limit; fits = true; rest = fields_text ks fs }) ≡ Some (fs, record { limit = limit; fits = true; rest = [] })
unfolding fields_at field_at field_text and_then after
fields_again limit [] fs range = refl
fields_again limit (k ∷ ks) fs range =
    let parts = and_parts (is_in_range limit k fs.0) (are_in_range limit ks fs.1) range in
    rw (kind_again limit k fs.0 (fields_text ks fs.1) parts.0 (fields_end ks fs.1), fields_again limit ks fs.1 parts.1) refl
