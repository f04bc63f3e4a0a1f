-- A list judged from the front.
use Rattle.std.specs.Prelude.{◌≡◌, refl, Ok, Err, List, [], ◌∷◌, map, ℕ, zero, suc, ◌+◌, ◌≤◌, ◌<◌, ℤ, pos, length, get_or, drop}
use Rattle.std.proofs.Common.{sym, ap, ◌∙◌, subst, zero-add, arith, drop_of_length-le, drop-cons}
use Rattle.std.proofs.lemmas.List.{length-map}
use Rattle.format.specs.Kinds.{Kind, InRange, NotBelow, Fits, ListOf}
use Rattle.format.specs.Writing as Writing
use Rattle.format.specs.Writing.{Faulty, later}
use Rattle.lists.specs.Judged.{ToldList, fine, range, falls}
use Rattle.lists.specs.declared.Unfit.TheVariants.{Range, Falls}

-- what is told of the list from place i on, after the value before it, is told of the whole list, i places further on
pub record Upto (t : Kind) (values : List ℤ) (i : ℕ) (before : ℤ) : Type 0 where
  pub faulty : (n j : ℕ) → Faulty t before (drop i values) n j → Faulty t (pos 0) values n (i + j)
  pub sound : ListOf t before (drop i values) → ListOf t (pos 0) values

-- the value at a place
pub record At (values : List ℤ) (i : ℕ) (v : ℤ) : Type 0 where
  pub inside : i < length values
  pub value : get_or values i (pos 0) ≡ v

get_or_number : {T : Type 0} (number : T → ℤ) (values : List T) (i : ℕ) (z : ℤ) (v : T) → i < length values → get_or (map number values) i z ≡ number (get_or values i v)
get_or_number number [] i z v h = absurd (omega arith)
get_or_number number (x ∷ xs) zero z v h = refl
get_or_number number (x ∷ xs) (suc i) z v h = get_or_number number xs i z v (omega arith)

pub at_number : {T : Type 0} (number : T → ℤ) (values : List T) (i : ℕ) (v : T) → i < length values → v ≡ get_or values i v → At (map number values) i (number v)
at_number number values i v h e = record { inside = rw (length-map values number) h; value = get_or_number number values i (pos 0) v h ∙ ap number (sym e) }

pub at_rest : {values : List ℤ} {i : ℕ} {v : ℤ} → At values i v → drop i values ≡ v ∷ drop (suc i) values
at_rest {values} {i} a = drop-cons values i (pos 0) a.inside ∙ ap (λ (x : ℤ). x ∷ drop (suc i) values) a.value

module _ {t : Kind} {values : List ℤ} where
  pub upto_none : Upto t values 0 (pos 0)
  upto_none = record { faulty = λ n j f. subst (λ (k : ℕ). Faulty t (pos 0) values n k) (sym (zero-add j)) f; sound = λ l. l }

  module _ {i : ℕ} {before : ℤ} (u : Upto t values i before) where
    pub upto_all : length values ≤ i → ToldList t values (Ok tt)
    upto_all h = fine (u.sound (subst (ListOf t before) (sym (drop_of_length-le values h)) tt))

    module _ {v : ℤ} (a : At values i v) where
      told : {n j : ℕ} → Faulty t before (v ∷ drop (suc i) values) n j → Faulty t (pos 0) values n (i + j)
      told {n = n} {j = j} f = u.faulty n j (subst (λ (l : List ℤ). Faulty t before l n j) (sym (at_rest a)) f)

      told_here : {n : ℕ} → Faulty t before (v ∷ drop (suc i) values) n 0 → Faulty t (pos 0) values n i
      told_here {n = n} f = let e : i + 0 ≡ i = omega arith in subst (λ (k : ℕ). Faulty t (pos 0) values n k) e (told f)

      pub upto_range : (InRange t v → ⊥) → ToldList t values (Err (Range i))
      upto_range r = range (told_here (Writing.range r))

      pub upto_falls : InRange t v → (NotBelow t before v → ⊥) → ToldList t values (Err (Falls i))
      upto_falls r b = falls (told_here (Writing.falls r b))

      pub upto_more : Fits t before v → Upto t values (i + 1) v
      upto_more f =
          let s : i + 1 ≡ suc i = omega arith in
          record {
            faulty = λ n j k.
                let p : i + suc j ≡ i + 1 + j = omega arith in
                subst (λ (x : ℕ). Faulty t (pos 0) values n x) p (told (later f (subst (λ (x : ℕ). Faulty t v (drop x values) n j) s k)));
            sound = λ l. u.sound (subst (ListOf t before) (sym (at_rest a)) (f, subst (λ (x : ℕ). ListOf t v (drop x values)) s l));
          }
