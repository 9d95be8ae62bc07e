-- A key more.
use Rattle.std.proofs.Common.{◌≡◌, ℕ, ◌+◌, ◌≤◌, ◌<◌, Bool, true, false, ◌&&◌, List, [], ◌∷◌, ◌++◌, length, map, Option, Some, None, refl, sym, ◌∙◌, ap, subst, arith, inl, inr, drop, take, nat_lt, lt-ltb}
use Rattle.std.proofs.lemmas.List.{map-append, length-append, take_all, take-append-le}
use Rattle.std.proofs.lemmas.Bool.{ltb-true, ltb-false, le-ltb}
use Rattle.std.specs.declared.cmp.Ordering.TheVariants.{Less}
use Rattle.std.specs.Ordering.{is_gt, is_lt}
use Rattle.std.specs.Option.{unwrap_or}
use Rattle.std.specs.FinMap.{entries, from_entries}
use Rattle.gate_base.specs.Maps.{name_cmp}
use Rattle.s3_machine.specs.Items.{behind, row_of, row_by, roll_by, begins}
use Rattle.list_pages.specs.Rolling.{first_rows, all_rows, Wanted}
use Rattle.list_pages.specs.Rolling.{UpTo, AllUpTo, Before, Rolled, ends}
use Rattle.list_pages.proofs.lemmas.Rising.{tells, short, rising, then_same, begins_cut}
use Rattle.list_pages.proofs.lemmas.Pushing.{push_beyond, push_ends, push_hidden, push_again, push_other, push_same, push_upto, upto_all}

pub drop_front : (p rest : List ℕ) → drop (length p) (p ++ rest) ≡ rest
drop_front [] rest = refl
drop_front (b ∷ p) rest = drop_front p rest

-- common bytes before two texts
pub common : (p x y : List ℕ) → name_cmp (p ++ x) (p ++ y) ≡ name_cmp x y
common [] x y = refl
common (b ∷ p) x y = then_same b b (p ++ x) (p ++ y) refl ∙ common p x y

abbrev pub fronted : List ℕ → List ℕ → List ℕ
fronted [] rest = rest
fronted (c ∷ d) rest = short (c ∷ d) rest

row_text : {H : Type 0} (p rest : List ℕ) (h : H) (o : Option (List ℕ)) → (row_by p (p ++ rest) h o).0 ≡ p ++ unwrap_or o rest
row_text p rest h None = refl
row_text p rest h (Some t) = refl

pub fronted_is : (d rest : List ℕ) → unwrap_or (roll_by d rest) rest ≡ fronted d rest
fronted_is [] rest = refl
fronted_is (c ∷ d) rest = refl

pub text_is : {H : Type 0} (p d rest : List ℕ) (h : H) → (row_of p d (p ++ rest, h)).0 ≡ p ++ fronted d rest
text_is p d rest h = row_text p rest h (roll_by d (drop (length p) (p ++ rest))) ∙ ap (λ r. p ++ unwrap_or (roll_by d r) rest) (drop_front p rest) ∙ ap (λ t. p ++ t) (fronted_is d rest)

rising_by : (d x y : List ℕ) → name_cmp x y ≡ Less → UpTo (fronted d x) (fronted d y)
rising_by [] x y h = ap is_gt h
rising_by (c ∷ d) x y h = rising (c ∷ d) x y h

-- the rows of keys that rise never fall
text_rises : {H : Type 0} (p d x y : List ℕ) (h k : H) → name_cmp (p ++ x) (p ++ y) ≡ Less → UpTo (row_of p d (p ++ x, h)).0 (row_of p d (p ++ y, k)).0
text_rises p d x y h k less =
    subst (λ t. UpTo t (row_of p d (p ++ y, k)).0) (sym (text_is p d x h)) (subst (λ t. UpTo (p ++ fronted d x) t) (sym (text_is p d y k))
    (ap is_gt (common p (fronted d x) (fronted d y)) ∙ rising_by d x y (sym (common p x y) ∙ less)))

before_cut : {X : Type 0} (k : List ℕ) (seen : List (List ℕ × X)) (e : List ℕ × X) → Before k (seen ++ e ∷ []) → Before k seen × (name_cmp e.0 k ≡ Less)
before_cut k [] e b = (tt, b.0)
before_cut k (f ∷ seen) e b = let r = before_cut k seen e b.1 in ((b.0, r.0), r.1)

module _ {H : Type 0} (w : Wanted) (shown : List (List ℕ × Option H)) (more : Bool) (seen : List (List ℕ × H)) (rest : List ℕ) (h : H) (r : Rolled w shown more seen) (before : Before (w.prefix ++ rest) seen) where
  abbrev row : List ℕ × Option H
  row = row_of w.prefix w.delimiter (w.prefix ++ rest, h)

  abbrev old_rows : List (List ℕ × Option H)
  old_rows = behind w.marker (all_rows w seen)

  abbrev new_rows : List (List ℕ × Option H)
  new_rows = behind w.marker (all_rows w (seen ++ (w.prefix ++ rest, h) ∷ []))

  pushed : all_rows w (seen ++ (w.prefix ++ rest, h) ∷ []) ≡ entries (from_entries {R = name_cmp} (map (row_of w.prefix w.delimiter) seen ++ row ∷ []))
  pushed = ap (λ l. entries (from_entries {R = name_cmp} l)) (map-append (row_of w.prefix w.delimiter) seen ((w.prefix ++ rest, h) ∷ []))

  top_goes : (x : List ℕ) (k : H) → Before (w.prefix ++ x) (seen ++ (w.prefix ++ rest, h) ∷ []) → AllUpTo (row_of w.prefix w.delimiter (w.prefix ++ x, k)).0 (all_rows w (seen ++ (w.prefix ++ rest, h) ∷ []))
  top_goes x k b =
      let c = before_cut (w.prefix ++ x) seen (w.prefix ++ rest, h) b in
      subst (λ l. AllUpTo (row_of w.prefix w.delimiter (w.prefix ++ x, k)).0 l) (sym pushed)
      (upto_all row.0 (row_of w.prefix w.delimiter (w.prefix ++ x, k)).0 (entries (from_entries {R = name_cmp} (map (row_of w.prefix w.delimiter) seen ++ row ∷ [])))
      (text_rises w.prefix w.delimiter rest x h k c.1)
      (push_upto w.marker row.0 row.1 (map (row_of w.prefix w.delimiter) seen) (r.top rest h before)))

  hidden_same : is_lt (name_cmp w.marker row.0) ≡ false → new_rows ≡ old_rows
  hidden_same hidden = ap (behind w.marker) pushed ∙ push_hidden w.marker row.0 row.1 (map (row_of w.prefix w.delimiter) seen) (r.top rest h before) hidden

  again_same : ends row.0 old_rows ≡ true → new_rows ≡ old_rows
  again_same again = ap (behind w.marker) pushed ∙ push_again w.marker row.0 row.1 (map (row_of w.prefix w.delimiter) seen) (r.top rest h before) again

  other_grows : is_lt (name_cmp w.marker row.0) ≡ true → ends row.0 old_rows ≡ false → new_rows ≡ old_rows ++ row ∷ []
  other_grows shows other = ap (behind w.marker) pushed ∙ push_other w.marker row.0 row.1 (map (row_of w.prefix w.delimiter) seen) (r.top rest h before) shows other

  same_rolled : new_rows ≡ old_rows → Rolled w shown more (seen ++ (w.prefix ++ rest, h) ∷ [])
  same_rolled e = record { rows = r.rows ∙ ap (take w.max) (sym e); over = r.over ∙ ap (λ l. nat_lt w.max (length l)) (sym e); top = top_goes }

  full_rolled : new_rows ≡ old_rows ++ row ∷ [] → w.max ≤ length old_rows → Rolled w shown true (seen ++ (w.prefix ++ rest, h) ∷ [])
  full_rolled e full =
      let long : length (old_rows ++ row ∷ []) ≡ length old_rows + 1 = length-append old_rows (row ∷ []) in
      record {
        rows = r.rows ∙ sym (take-append-le w.max old_rows (row ∷ []) full) ∙ ap (take w.max) (sym e);
        over = sym (ap (λ l. nat_lt w.max (length l)) e ∙ lt-ltb w.max (length (old_rows ++ row ∷ [])) (omega (arith, long)));
        top = top_goes;
      }

  -- once one is left over nothing changes
  pub roll_over : more ≡ true → Rolled w shown more (seen ++ (w.prefix ++ rest, h) ∷ [])
  roll_over is =
      let over : w.max < length old_rows = ltb-true w.max (length old_rows) (sym r.over ∙ is) in
      elim (tells (is_lt (name_cmp w.marker row.0))) [
        | inr f ↦ same_rolled (hidden_same f)
        | inl t ↦ elim (tells (ends row.0 old_rows)) [
          | inl a ↦ same_rolled (again_same a)
          | inr o ↦ subst (λ m. Rolled w shown m (seen ++ (w.prefix ++ rest, h) ∷ [])) (sym is) (full_rolled (other_grows t o) (omega arith))
        ]
      ]

  -- a row that is the last of all again
  pub roll_same : ends row.0 (all_rows w seen) ≡ true → all_rows w (seen ++ (w.prefix ++ rest, h) ∷ []) ≡ all_rows w seen
  roll_same again = pushed ∙ ap entries (push_same (map (row_of w.prefix w.delimiter) seen) row.0 row.1 again)

  -- the row is the last of all
  pub roll_ends : ends row.0 (all_rows w (seen ++ (w.prefix ++ rest, h) ∷ [])) ≡ true
  roll_ends = ap (ends row.0) pushed ∙ push_ends w.marker row.0 row.1 (map (row_of w.prefix w.delimiter) seen) (r.top rest h before)

  -- there is a row more, where it isn't the last of all
  pub roll_beyond : is_lt (name_cmp w.marker row.0) ≡ true → ends row.0 (all_rows w seen) ≡ false → length new_rows ≡ length old_rows + 1
  roll_beyond shows other =
      ap length (ap (behind w.marker) pushed ∙ push_beyond w.marker row.0 row.1 (map (row_of w.prefix w.delimiter) seen) (r.top rest h before) shows other) ∙ length-append old_rows (row ∷ [])

  -- there are no fewer rows
  pub roll_keeps : length old_rows ≤ length new_rows
  roll_keeps = elim (tells (is_lt (name_cmp w.marker row.0))) [
    | inr f ↦ let e = ap length (hidden_same f) in omega (arith, e)
    | inl t ↦ elim (tells (ends row.0 (all_rows w seen))) [
      | inl a ↦ let e = ap (λ l. length (behind w.marker l)) (roll_same a) in omega (arith, e)
      | inr o ↦ let e = roll_beyond t o in omega (arith, e)
    ]
  ]

  -- the first rows with it, whatever they are
  pub roll_next : Rolled w (take w.max new_rows) (nat_lt w.max (length new_rows)) (seen ++ (w.prefix ++ rest, h) ∷ [])
  roll_next = record { rows = refl; over = refl; top = top_goes }

  pub roll_alike : ends row.0 (all_rows w seen) ≡ true → Rolled w shown more (seen ++ (w.prefix ++ rest, h) ∷ [])
  roll_alike again = same_rolled (ap (behind w.marker) (roll_same again))

  pub roll_hidden : is_lt (name_cmp w.marker row.0) ≡ false → Rolled w shown more (seen ++ (w.prefix ++ rest, h) ∷ [])
  roll_hidden f = same_rolled (hidden_same f)

  -- all rows are shown while none is left over
  all_shown : more ≡ false → shown ≡ old_rows
  all_shown is = r.rows ∙ take_all w.max old_rows (ltb-false w.max (length old_rows) (sym r.over ∙ is))

  pub roll_again : more ≡ false → ends row.0 shown ≡ true → Rolled w shown more (seen ++ (w.prefix ++ rest, h) ∷ [])
  roll_again is again = same_rolled (again_same (ap (ends row.0) (sym (all_shown is)) ∙ again))

  pub roll_more : more ≡ false → is_lt (name_cmp w.marker row.0) ≡ true → ends row.0 shown ≡ false → length shown < w.max → Rolled w (shown ++ row ∷ []) more (seen ++ (w.prefix ++ rest, h) ∷ [])
  roll_more is shows other room =
      let e = other_grows shows (ap (ends row.0) (sym (all_shown is)) ∙ other) in
      let all = all_shown is in
      let same_length : length shown ≡ length old_rows = ap length all in
      let long : length (old_rows ++ row ∷ []) ≡ length old_rows + 1 = length-append old_rows (row ∷ []) in
      record {
        rows = ap (λ l. l ++ row ∷ []) all ∙ sym (take_all w.max (old_rows ++ row ∷ []) (omega (arith, long, same_length))) ∙ ap (take w.max) (sym e);
        over = is ∙ sym (ap (λ l. nat_lt w.max (length l)) e ∙ le-ltb w.max (length (old_rows ++ row ∷ [])) (omega (arith, long, same_length)));
        top = top_goes;
      }

  pub roll_full : more ≡ false → is_lt (name_cmp w.marker row.0) ≡ true → ends row.0 shown ≡ false → w.max ≤ length shown → Rolled w shown true (seen ++ (w.prefix ++ rest, h) ∷ [])
  roll_full is shows other full =
      let same_length : length shown ≡ length old_rows = ap length (all_shown is) in
      full_rolled (other_grows shows (ap (ends row.0) (sym (all_shown is)) ∙ other)) (omega (arith, same_length))

-- what stands there in the end
pub rolled_rows : {H : Type 0} (w : Wanted) (shown : List (List ℕ × Option H)) (more : Bool) (seen : List (List ℕ × H)) → Rolled w shown more seen → (shown, nat_lt 0 w.max && more) ≡ first_rows w seen
rolled_rows w shown more seen r = λ i. (r.rows i, nat_lt 0 w.max && r.over i)

-- the same of a key that begins with the prefix
module _ {H : Type 0} (w : Wanted) (shown : List (List ℕ × Option H)) (more : Bool) (seen : List (List ℕ × H)) (key : List ℕ) (h : H) (is : begins w.prefix key ≡ true) (r : Rolled w shown more seen) (before : Before key seen) where
  abbrev cut : (v : List ℕ) × (key ≡ w.prefix ++ v)
  cut = begins_cut w.prefix key is

  before_cut_key : Before (w.prefix ++ cut.0) seen
  before_cut_key = subst (λ k. Before k seen) cut.1 before

  pub push_over : more ≡ true → Rolled w shown more (seen ++ (key, h) ∷ [])
  push_over over = subst (λ k. Rolled w shown more (seen ++ (k, h) ∷ [])) (sym cut.1) (roll_over w shown more seen cut.0 h r before_cut_key over)

  pub push_behind : (t : List ℕ) (v : Option H) → row_of w.prefix w.delimiter (key, h) ≡ (t, v) → is_lt (name_cmp w.marker t) ≡ false → Rolled w shown more (seen ++ (key, h) ∷ [])
  push_behind t v e hidden = subst (λ k. Rolled w shown more (seen ++ (k, h) ∷ [])) (sym cut.1) (roll_hidden w shown more seen cut.0 h r before_cut_key (ap (λ k. is_lt (name_cmp w.marker (row_of w.prefix w.delimiter (k, h)).0)) (sym cut.1) ∙ ap (λ x. is_lt (name_cmp w.marker x.0)) e ∙ hidden))

  pub push_last : (t : List ℕ) (v : Option H) → row_of w.prefix w.delimiter (key, h) ≡ (t, v) → more ≡ false → ends t shown ≡ true → Rolled w shown more (seen ++ (key, h) ∷ [])
  push_last t v e open_ last = subst (λ k. Rolled w shown more (seen ++ (k, h) ∷ [])) (sym cut.1) (roll_again w shown more seen cut.0 h r before_cut_key open_ (ap (λ k. ends (row_of w.prefix w.delimiter (k, h)).0 shown) (sym cut.1) ∙ ap (λ x. ends x.0 shown) e ∙ last))

  pub push_row : (t : List ℕ) (v : Option H) → row_of w.prefix w.delimiter (key, h) ≡ (t, v) → more ≡ false → is_lt (name_cmp w.marker t) ≡ true → ends t shown ≡ false → length shown < w.max → Rolled w (shown ++ (t, v) ∷ []) more (seen ++ (key, h) ∷ [])
  push_row t v e open_ shows other room =
      subst (λ k. Rolled w (shown ++ (t, v) ∷ []) more (seen ++ (k, h) ∷ [])) (sym cut.1)
      (subst (λ x. Rolled w (shown ++ x ∷ []) more (seen ++ (w.prefix ++ cut.0, h) ∷ [])) (ap (λ k. row_of w.prefix w.delimiter (k, h)) (sym cut.1) ∙ e)
      (roll_more w shown more seen cut.0 h r before_cut_key open_
      (ap (λ k. is_lt (name_cmp w.marker (row_of w.prefix w.delimiter (k, h)).0)) (sym cut.1) ∙ ap (λ x. is_lt (name_cmp w.marker x.0)) e ∙ shows)
      (ap (λ k. ends (row_of w.prefix w.delimiter (k, h)).0 shown) (sym cut.1) ∙ ap (λ x. ends x.0 shown) e ∙ other) room))

  pub push_left : (t : List ℕ) (v : Option H) → row_of w.prefix w.delimiter (key, h) ≡ (t, v) → more ≡ false → is_lt (name_cmp w.marker t) ≡ true → ends t shown ≡ false → w.max ≤ length shown → Rolled w shown true (seen ++ (key, h) ∷ [])
  push_left t v e open_ shows other full =
      subst (λ k. Rolled w shown true (seen ++ (k, h) ∷ [])) (sym cut.1)
      (roll_full w shown more seen cut.0 h r before_cut_key open_
      (ap (λ k. is_lt (name_cmp w.marker (row_of w.prefix w.delimiter (k, h)).0)) (sym cut.1) ∙ ap (λ x. is_lt (name_cmp w.marker x.0)) e ∙ shows)
      (ap (λ k. ends (row_of w.prefix w.delimiter (k, h)).0 shown) (sym cut.1) ∙ ap (λ x. ends x.0 shown) e ∙ other) full)

-- and what is said of all rows
module _ {H : Type 0} (w : Wanted) {shown : List (List ℕ × Option H)} {more : Bool} {seen : List (List ℕ × H)} (r : Rolled w shown more seen) (k : List ℕ × H) (is : begins w.prefix k.0 ≡ true) (before : Before k.0 seen) where
  abbrev own_row : List ℕ × Option H
  own_row = row_of w.prefix w.delimiter k

  abbrev cut_key : (v : List ℕ) × (k.0 ≡ w.prefix ++ v)
  cut_key = begins_cut w.prefix k.0 is

  before_key : Before (w.prefix ++ cut_key.0) seen
  before_key = subst (λ n. Before n seen) cut_key.1 before

  pub push_repeats : ends own_row.0 (all_rows w seen) ≡ true → all_rows w (seen ++ k ∷ []) ≡ all_rows w seen
  push_repeats again =
      subst (λ n. ends (row_of w.prefix w.delimiter (n, k.1)).0 (all_rows w seen) ≡ true → all_rows w (seen ++ (n, k.1) ∷ []) ≡ all_rows w seen) (sym cut_key.1)
      (roll_same w shown more seen cut_key.0 k.1 r before_key) again

  pub push_alike : ends own_row.0 (all_rows w seen) ≡ true → Rolled w shown more (seen ++ k ∷ [])
  push_alike again =
      subst (λ n. ends (row_of w.prefix w.delimiter (n, k.1)).0 (all_rows w seen) ≡ true → Rolled w shown more (seen ++ (n, k.1) ∷ [])) (sym cut_key.1)
      (roll_alike w shown more seen cut_key.0 k.1 r before_key) again

  pub push_is_last : ends own_row.0 (all_rows w (seen ++ k ∷ [])) ≡ true
  push_is_last =
      subst (λ n. ends (row_of w.prefix w.delimiter (n, k.1)).0 (all_rows w (seen ++ (n, k.1) ∷ [])) ≡ true) (sym cut_key.1)
      (roll_ends w shown more seen cut_key.0 k.1 r before_key)

  pub push_counts : is_lt (name_cmp w.marker own_row.0) ≡ true → ends own_row.0 (all_rows w seen) ≡ false
      → length (behind w.marker (all_rows w (seen ++ k ∷ []))) ≡ length (behind w.marker (all_rows w seen)) + 1
  push_counts shows other =
      subst (λ n. is_lt (name_cmp w.marker (row_of w.prefix w.delimiter (n, k.1)).0) ≡ true → ends (row_of w.prefix w.delimiter (n, k.1)).0 (all_rows w seen) ≡ false
      → length (behind w.marker (all_rows w (seen ++ (n, k.1) ∷ []))) ≡ length (behind w.marker (all_rows w seen)) + 1) (sym cut_key.1)
      (roll_beyond w shown more seen cut_key.0 k.1 r before_key) shows other

  pub push_keeps : length (behind w.marker (all_rows w seen)) ≤ length (behind w.marker (all_rows w (seen ++ k ∷ [])))
  push_keeps =
      subst (λ n. length (behind w.marker (all_rows w seen)) ≤ length (behind w.marker (all_rows w (seen ++ (n, k.1) ∷ [])))) (sym cut_key.1)
      (roll_keeps w shown more seen cut_key.0 k.1 r before_key)

  pub push_next : Rolled w (take w.max (behind w.marker (all_rows w (seen ++ k ∷ [])))) (nat_lt w.max (length (behind w.marker (all_rows w (seen ++ k ∷ []))))) (seen ++ k ∷ [])
  push_next =
      subst (λ n. Rolled w (take w.max (behind w.marker (all_rows w (seen ++ (n, k.1) ∷ [])))) (nat_lt w.max (length (behind w.marker (all_rows w (seen ++ (n, k.1) ∷ []))))) (seen ++ (n, k.1) ∷ [])) (sym cut_key.1)
      (roll_next w shown more seen cut_key.0 k.1 r before_key)

pub row_at : {H : Type 0} (p d p2 d2 : List ℕ) (k : List ℕ × H) (x : List ℕ × Option H) → p ≡ p2 → d ≡ d2 → row_of p d k ≡ x → row_of p2 d2 k ≡ x
row_at p d p2 d2 k x ep ed h = subst (λ q. row_of q d2 k ≡ x) ep (subst (λ e. row_of p e k ≡ x) ed h)
