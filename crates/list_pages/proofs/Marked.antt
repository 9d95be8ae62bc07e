-- Where a listing goes on behind a name, by where the text of that ends.
use Rattle.std.proofs.Common.{◌≡◌, ℕ, Bool, true, false, cond, List, [], length, take, drop, Option, Some, None, sym, ap, ◌∙◌}
use Rattle.s3_machine.specs.Items.{begins, roll_by, row_by, row_of}
use Rattle.s3_machine.specs.declared.items.ItemHead.{ItemHead}
use Rattle.list_pages.specs.Jumps.{marker_by, next_marker, past_all}
use Rattle.list_pages.specs.Rolls.{under_of}

some_none : (h : ItemHead) → Some h ≡ None → ⊥
some_none h e = cc

none_some : (h : ItemHead) → None ≡ Some h → ⊥
none_some h e = cc

by_row : (prefix key text : List ℕ) (h : ItemHead) (up : Bool) (o : Option (List ℕ)) → row_by prefix key h o ≡ (text, under_of up h) → marker_by prefix key o ≡ cond up (past_all text) text
by_row prefix key text h true None e = absurd (some_none h (ap (λ r. r.1) e))
by_row prefix key text h false None e = ap (λ r. r.0) e
by_row prefix key text h true (Some t) e = ap (λ r. past_all r.0) e
by_row prefix key text h false (Some t) e = absurd (none_some h (ap (λ r. r.1) e))

marked : (prefix delimiter key text : List ℕ) (up : Bool) → begins prefix key ≡ true → ((h : ItemHead) → row_of prefix delimiter (key, h) ≡ (text, under_of up h)) → next_marker prefix delimiter key ≡ cond up (past_all text) text
marked prefix delimiter key text up is row =
    let h : ItemHead = record { etag = []; modified = 0; size = 0 } in
    ap (λ t. cond t (marker_by prefix key (roll_by delimiter (drop (length prefix) key))) key) is ∙ by_row prefix key text h up (roll_by delimiter (drop (length prefix) key)) (row h)

pub unmarked : (prefix delimiter name : List ℕ) → begins prefix name ≡ false → next_marker prefix delimiter name ≡ name
unmarked prefix delimiter name other = ap (λ t. cond t (marker_by prefix name (roll_by delimiter (drop (length prefix) name))) name) other

module _ (prefix delimiter key : List ℕ) (end : ℕ × Bool) (is : begins prefix key ≡ true) (row : (h : ItemHead) → row_of prefix delimiter (key, h) ≡ (take end.0 key, under_of end.1 h)) where
  pub marked_up : end.1 ≡ true → past_all (take end.0 key) ≡ next_marker prefix delimiter key
  marked_up up = sym (marked prefix delimiter key (take end.0 key) end.1 is row ∙ ap (λ u. cond u (past_all (take end.0 key)) (take end.0 key)) up)

  pub marked_whole : end.1 ≡ false → take end.0 key ≡ next_marker prefix delimiter key
  marked_whole up = sym (marked prefix delimiter key (take end.0 key) end.1 is row ∙ ap (λ u. cond u (past_all (take end.0 key)) (take end.0 key)) up)
