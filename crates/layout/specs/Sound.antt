-- What makes a layout one that can be relied on, and one that answers everything.
use Rattle.std.specs.Prelude.{◌≡◌, Bool, List, ◌++◌, ℕ}
use Rattle.layout.specs.Layout.{Layout, Takes, Answer, Says, PrefixFree, Stops}

pub record Sound {A : Type 0} (L : Layout A) : Type 0 where
  -- no value's bits are the beginning of another's
  pub free : PrefixFree L.ok L.bits
  -- one refusal at most, and none where a value is taken
  pub sole : {w : List Bool} {n m : ℕ} {u v : List Bool} → L.no w n u → L.no w m v → (n ≡ m) × (u ≡ v)
  pub apart : {w : List Bool} {n : ℕ} {u : List Bool} {a : A} {r : List Bool} → L.no w n u → Takes L w a r → ⊥
  -- what stops before its end is answered 6
  pub stopped : {w : List Bool} → Stops L.ok L.bits w → (u : List Bool) × L.no w 6 u
  -- what a refusal tells is an end of the bits
  pub within : {w : List Bool} {n : ℕ} {u : List Bool} → L.no w n u → (x : List Bool) × (w ≡ x ++ u)

-- it says something of any bits
abbrev pub Total : {A : Type 0} → Layout A → Type 0
Total {A} L = (w : List Bool) → (x : Answer A) × Says L w x

-- ---- what the laws ask of the values that are laid out

-- no two good ones are written as one
abbrev pub Injective : {A B : Type 0} → (B → Type 0) → (B → A) → Type 0
Injective {B = B} good f = (b c : B) → good b → good c → f b ≡ f c → b ≡ c

-- a set of which it can be told whether one of it has a property, where that can be told of each
abbrev pub Searchable : {A : Type 0} → (A → Type 0) → Type 1
Searchable {A} ok = (P : A → Type 0) → ((a : A) → Dec (P a)) → Dec ((a : A) × ok a × P a)
