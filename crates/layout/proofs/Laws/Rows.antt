-- Rows of values with nothing between them.
use Rattle.std.specs.Prelude.{◌≡◌, refl, Bool, List, [], ◌∷◌, ◌++◌}
use Rattle.std.proofs.Common.{sym, ap₂, ◌∙◌, subst, append_assoc}
use Rattle.layout.specs.Layout.{Layout, NonEmpty, row, All}
use Rattle.layout.specs.Sound.{Sound}
use Rattle.layout.proofs.Laws.Beginnings.{free_splits}

pub all_map : {A : Type 0} {P Q : A → Type 0} → ((a : A) → P a → Q a) → (vs : List A) → All P vs → All Q vs
all_map f [] h = tt
all_map f (v ∷ vs) h = (f v h.0, all_map f vs h.1)

nonempty : {A : Type 0} (u v : List A) → NonEmpty u → NonEmpty (u ++ v)
nonempty [] v h = absurd h
nonempty (x ∷ u) v h = tt

-- if the bits of one row are the beginning of another's, its values are the first of the other
pub row_begins : {A : Type 0} {L : Layout A} → Sound L → ((a : A) → L.ok a → NonEmpty (L.bits a)) → (vs us : List A) (x : List Bool)
    → All L.ok vs → All L.ok us → row L us ≡ row L vs ++ x → (rest : List A) × (us ≡ vs ++ rest)
row_begins s some [] us x h l e = (us, refl)
row_begins {L = L} s some (v ∷ vs) [] x h l e = absurd (subst NonEmpty (sym e) (nonempty (row L (v ∷ vs)) x (nonempty (L.bits v) (row L vs) (some v h.0))))
row_begins {L = L} s some (v ∷ vs) (u ∷ us) x h l e =
    let (p, q) = (free_splits s.free u v l.0 h.0).split (row L us) (row L vs ++ x) (e ∙ append_assoc (L.bits v) (row L vs) x) in
    let (rest, r) = row_begins s some vs us x h.1 l.1 q in
    (rest, ap₂ ◌∷◌ p r)
