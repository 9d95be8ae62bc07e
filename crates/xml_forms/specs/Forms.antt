-- Forms of text. A form relates a value to each of its spellings: it is the grammar, with no order of attempts.
use Rattle.std.specs.Prelude.{◌≡◌, ℕ, ◌⊎◌, Bool, true, false, List, [], ◌∷◌, ◌++◌, length, min, Result, Ok, Err}
use Rattle.std.specs.List.{list_all}

-- bytes begin with a spelling of a, and rest stands after it
pub record Begins {A : Type 0} (form : A → List ℕ → Type 0) (bytes : List ℕ) (a : A) (rest : List ℕ) : Type 0 where
  pub word : List ℕ
  pub spells : form a word
  pub at : bytes ≡ word ++ rest

-- next goes on as rest does: with the same first byte, or not at all where nothing is left
abbrev pub Follows : List ℕ → List ℕ → Type 0
Follows [] next = next ≡ []
Follows (b ∷ rest) next = (bytes : List ℕ) × (next ≡ b ∷ bytes)

-- bytes can be continued to a spelling up to where left of them are left, and no further
pub record Stops {A : Type 0} (form : A → List ℕ → Type 0) (bytes : List ℕ) (left : ℕ) : Type 0 where
  pub front : List ℕ
  pub rest : List ℕ
  pub at : bytes ≡ front ++ rest
  pub counts : length rest ≡ left
  pub value : A
  pub more : List ℕ
  pub lives : form value (front ++ more)
  pub dead : (a : A) (word after next : List ℕ) → form a word → Follows rest next → front ++ next ≡ word ++ after → ⊥

-- what reading a form at the front of bytes gives: the value and the bytes behind it, or how many were left where it stopped
abbrev pub Reads : {A : Type 0} → (A → List ℕ → Type 0) → List ℕ → Result (A × List ℕ) ℕ → Type 0
Reads form bytes (Ok found) = Begins form bytes found.0 found.1
Reads form bytes (Err left) = Stops form bytes left

-- no spelling begins another, and each is of one value
pub record Unique {A : Type 0} (form : A → List ℕ → Type 0) : Type 0 where
  pub one : (a b : A) (x y u v : List ℕ) → form a x → form b y → x ++ u ≡ y ++ v → (a ≡ b) × (x ≡ y)

-- no spelling of one begins a spelling of the other
pub record Apart {A B : Type 0} (f : A → List ℕ → Type 0) (g : B → List ℕ → Type 0) : Type 0 where
  pub none : (a : A) (b : B) (x y u v : List ℕ) → f a x → g b y → x ++ u ≡ y ++ v → ⊥

-- the form has a spelling
pub record Possible {A : Type 0} (form : A → List ℕ → Type 0) : Type 0 where
  pub value : A
  pub word : List ℕ
  pub spells : form value word

-- these bytes and no others
abbrev pub Word : List ℕ → Unit {0} → List ℕ → Type 0
Word word _ bytes = bytes ≡ word

-- these bytes and no others, of this value
abbrev pub Exactly : {A : Type 0} → A → List ℕ → A → List ℕ → Type 0
Exactly value word a bytes = (a ≡ value) × (bytes ≡ word)

-- one form and then another, which may depend on the value of the first
pub record Then {A B : Type 0} (first : A → List ℕ → Type 0) (second : A → B → List ℕ → Type 0) (b : B) (bytes : List ℕ) : Type 0 where
  pub value : A
  pub head : List ℕ
  pub tail : List ℕ
  pub heads : first value head
  pub tails : second value b tail
  pub at : bytes ≡ head ++ tail

-- one form or the other
abbrev pub Either : {A : Type 0} → (A → List ℕ → Type 0) → (A → List ℕ → Type 0) → A → List ℕ → Type 0
Either f g a bytes = f a bytes ⊎ g a bytes

-- as many bytes as pass a test, if they are allowed, and then a form that begins with another byte
pub record RunThen {B : Type 0} (test : ℕ → Bool) (allowed : List ℕ → Type 0) (second : List ℕ → B → List ℕ → Type 0)
    (b : B) (bytes : List ℕ) : Type 0 where
  pub run : List ℕ
  pub tail : List ℕ
  pub passes : list_all test run ≡ true
  pub is_allowed : allowed run
  pub tails : second run b tail
  pub at : bytes ≡ run ++ tail

-- a form whose value is a function of that of another
pub record Valued {A B : Type 0} (value : A → B) (form : A → List ℕ → Type 0) (b : B) (bytes : List ℕ) : Type 0 where
  pub of : A
  pub spells : form of bytes
  pub is : b ≡ value of

-- spellings of these values, one behind another
abbrev pub SpellsAll : {A : Type 0} → (A → List ℕ → Type 0) → List A → List ℕ → Type 0
SpellsAll form [] bytes = bytes ≡ []
SpellsAll form (a ∷ values) bytes = (head : List ℕ) × (tail : List ℕ) × form a head × SpellsAll form values tail × (bytes ≡ head ++ tail)

-- any number of spellings of a form, and then one of another, which may depend on their values
pub record Many {A B : Type 0} (item : A → List ℕ → Type 0) (last : List A → B → List ℕ → Type 0) (b : B) (bytes : List ℕ) : Type 0 where
  pub items : List A
  pub inner : List ℕ
  pub tail : List ℕ
  pub spells : SpellsAll item items inner
  pub tails : last items b tail
  pub at : bytes ≡ inner ++ tail

-- all spellings of a form that stand at the front of bytes, and how many bytes are left where no further one can be read
pub record Skips {A : Type 0} (form : A → List ℕ → Type 0) (bytes : List ℕ) (items : List A) (rest : List ℕ) (left : ℕ) : Type 0 where
  pub inner : List ℕ
  pub spells : SpellsAll form items inner
  pub at : bytes ≡ inner ++ rest
  pub stops : Stops form rest left

-- each spelling begins with a byte that fails the test
pub record Opens {B : Type 0} (test : ℕ → Bool) (form : B → List ℕ → Type 0) : Type 0 where
  pub at : (b : B) (word : List ℕ) → form b word → (c : ℕ) × (cs : List ℕ) × (word ≡ c ∷ cs) × (test c ≡ false)

-- the first of two attempts that succeeds, or the fewer bytes that were left
abbrev pub nearer : {T : Type 0} → Result T ℕ → Result T ℕ → Result T ℕ
nearer (Ok found) second = Ok found
nearer (Err left) (Ok found) = Ok found
nearer (Err left) (Err other) = Err (min left other)
