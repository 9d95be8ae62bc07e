-- The parts that a completion lists, found one by one: the same as those that are chosen.
use Rattle.std.specs.Prelude.{◌≡◌, ℕ, Bool, true, false, cond, ◌&&◌, ◌||◌, not, List, [], ◌∷◌, ◌++◌, map, flat_map, length, nat_lt, bytes_eq, Option, Some, None, is_some}
use Rattle.std.proofs.Common.{◌+◌, ◌<◌, ◌≤◌, drop, get_or, refl, sym, ap, ◌∙◌, arith, add-one}
use Rattle.std.specs.FinMap.{get}
use Rattle.std.specs.Option.{option_map_or}
use Rattle.std.proofs.lemmas.Bool.{and_parts}
use Rattle.std.proofs.lemmas.Bool.Decides.{nat_tests}
use Rattle.std.proofs.lemmas.List.{drop_all, length-drop}
use Rattle.std.proofs.lemmas.Slice.Eq.{bytes_eq-Decides}
use Rattle.std.proofs.Math.Seq.{drop-cons}
use Rattle.gate_base.specs.Maps.{Numbers}
use Rattle.s3_machine.specs.declared.code.Code.{Code}
use Rattle.s3_machine.specs.declared.code.Code.TheVariants.{EntityTooSmall, InvalidPart, InvalidPartOrder}
use Rattle.s3_machine.specs.declared.operation.Listed.{Listed}
use Rattle.s3_machine.specs.State.{Part, Upload}
use Rattle.s3_machine.specs.Uploads.{etag_listed, bytes_in, chosen, chosen_two, etag_in, is_too_small, rises, upload_etag, joined_object, kept_of}
use Rattle.s3_native.specs.Native.{has_all, has_part, is_small_at, is_small_list, listed_bytes, joined_by, kept_by, refuses}

module _ (parts : Numbers Part) where
  -- the parts of a list, each there with its ETag
  abbrev pub Chooses : List Listed → List Part → Type 0
  Chooses [] [] = Unit {0}
  Chooses [] (p ∷ ps) = ⊥
  Chooses (l ∷ list) [] = ⊥
  Chooses (l ∷ list) (p ∷ ps) = (get parts l.number ≡ Some p) × (p.etag ≡ l.etag) × Chooses list ps

  pub chosen_is : (list : List Listed) (ps : List Part) → Chooses list ps → chosen parts list ≡ Some ps
  unfolding chosen
  chosen_is [] [] chooses = refl
  chosen_is [] (p ∷ ps) chooses = absurd chooses
  chosen_is (l ∷ list) [] chooses = absurd chooses
  chosen_is (l ∷ list) (p ∷ ps) (is, same, rest) =
      ap (λ v. chosen_two v l.etag (chosen parts list)) is ∙ ap (chosen_two (Some p) l.etag) (chosen_is list ps rest)
      ∙ ap (λ t. cond t (Some (p ∷ ps)) None) ((bytes_eq-Decides p.etag l.etag).1 same)

  bytes_are : (list : List Listed) (ps : List Part) → Chooses list ps → listed_bytes parts list ≡ flat_map bytes_in ps
  bytes_are [] [] chooses = refl
  bytes_are [] (p ∷ ps) chooses = absurd chooses
  bytes_are (l ∷ list) [] chooses = absurd chooses
  bytes_are (l ∷ list) (p ∷ ps) (is, same, rest) = ap (λ v. option_map_or bytes_in v [] ++ listed_bytes parts list) is ∙ ap (λ bytes. p.bytes ++ bytes) (bytes_are list ps rest)

  etags_are : (list : List Listed) (ps : List Part) → Chooses list ps → map etag_listed list ≡ map etag_in ps
  etags_are [] [] chooses = refl
  etags_are [] (p ∷ ps) chooses = absurd chooses
  etags_are (l ∷ list) [] chooses = absurd chooses
  etags_are (l ∷ list) (p ∷ ps) (is, same, rest) = λ i. sym same i ∷ etags_are list ps rest i

  pub sizes_are : (least : ℕ) (list : List Listed) (ps : List Part) → Chooses list ps → is_small_list parts least list ≡ is_too_small least ps
  sizes_are least [] [] chooses = refl
  sizes_are least [] (p ∷ ps) chooses = absurd chooses
  sizes_are least (l ∷ list) [] chooses = absurd chooses
  sizes_are least (l ∷ []) (p ∷ []) chooses = refl
  sizes_are least (l ∷ []) (p ∷ (q ∷ ps)) (is, same, rest) = absurd rest
  sizes_are least (l ∷ (m ∷ list)) (p ∷ []) (is, same, rest) = absurd rest
  sizes_are least (l ∷ (m ∷ list)) (p ∷ (q ∷ ps)) (is, same, rest) =
      let more : nat_lt 0 (length (m ∷ list)) ≡ true = grind (arith, nat_tests) in
      ap (λ t. (t && is_small_at parts least l) || is_small_list parts least (m ∷ list)) more
      ∙ ap (λ v. option_map_or (λ p. nat_lt (length p.bytes) least) v false || is_small_list parts least (m ∷ list)) is
      ∙ ap (λ t. nat_lt (length p.bytes) least || t) (sizes_are least (m ∷ list) (q ∷ ps) rest)

  -- one more part of a list that is gone through
  pub small_next : (least : ℕ) (list : List Listed) (i : ℕ) (l : Listed) → i < length list → l ≡ get_or list i l
      → is_small_list parts least (drop i list) ≡ ((nat_lt (i + 1) (length list) && is_small_at parts least l) || is_small_list parts least (drop (i + 1) list))
  small_next least list i l below same =
      let cut : drop i list ≡ l ∷ drop (i + 1) list = drop-cons list i l below ∙ (λ k. sym same k ∷ drop (sym (add-one i) k) list) in
      let left : nat_lt 0 (length (drop (i + 1) list)) ≡ nat_lt (i + 1) (length list) = grind (arith, nat_tests, length-drop (i + 1) list) in
      ap (is_small_list parts least) cut ∙ ap (λ t. (t && is_small_at parts least l) || is_small_list parts least (drop (i + 1) list)) left

  pub small_end : (least : ℕ) (list : List Listed) (i : ℕ) → length list ≤ i → is_small_list parts least (drop i list) ≡ false
  small_end least list i past = ap (is_small_list parts least) (drop_all i list past)

  part_there : (l : Listed) (v : Option Part) → get parts l.number ≡ v → option_map_or (λ p. bytes_eq p.etag l.etag) v false ≡ true → (p : Part) × (get parts l.number ≡ Some p) × (p.etag ≡ l.etag)
  part_there l None is never = cc
  part_there l (Some p) is same = (p, is, (bytes_eq-Decides p.etag l.etag).0 same)

  -- each part is there with its ETag
  pub chooses : (list : List Listed) → has_all parts list ≡ true → (ps : List Part) × Chooses list ps
  chooses [] all = ([], tt)
  chooses (l ∷ list) all =
      let both = and_parts (has_part parts l) (has_all parts list) all in
      let there = part_there l (get parts l.number) refl both.0 in
      let rest = chooses list both.1 in
      (there.0 ∷ rest.0, (there.1, there.2, rest.1))

  all_chosen : (list : List Listed) → is_some (chosen parts list) ≡ has_all parts list
  unfolding chosen
  all_chosen [] = refl
  all_chosen (l ∷ list) = by (get parts l.number) (chosen parts list) ∙ ap (λ t. has_part parts l && t) (all_chosen list)
    where
      tested : (t : Bool) (ps : List Part) → is_some (cond t (Some ps) None) ≡ (t && true)
      tested true ps = refl
      tested false ps = refl

      never : (t : Bool) → false ≡ (t && false)
      never true = refl
      never false = refl

      by : (v : Option Part) (rest : Option (List Part)) → is_some (chosen_two v l.etag rest) ≡ (option_map_or (λ p. bytes_eq p.etag l.etag) v false && is_some rest)
      by None rest = refl
      by (Some p) None = never (bytes_eq p.etag l.etag)
      by (Some p) (Some ps) = tested (bytes_eq p.etag l.etag) (p ∷ ps)

  pub none_chosen : (list : List Listed) → has_all parts list ≡ false → chosen parts list ≡ None
  none_chosen list not_all = by (chosen parts list) (all_chosen list ∙ not_all)
    where
      by : (v : Option (List Part)) → is_some v ≡ false → v ≡ None
      by None e = refl
      by (Some ps) e = cc

-- what a completion that isn't refused goes by
pub record Accepts (least : ℕ) (u : Upload) (list : List Listed) (moment : ℕ) : Type 0 where
  pub parts : List Part
  pub rise : rises list ≡ true
  pub are : chosen u.parts list ≡ Some parts
  pub large : is_too_small least parts ≡ false
  pub etag : upload_etag (map etag_listed list) ≡ upload_etag (map etag_in parts)
  pub object : joined_by u list moment ≡ joined_object u parts moment
  pub kept : kept_by u list moment ≡ kept_of u list parts moment

module _ (least : ℕ) (u : Upload) (list : List Listed) where
  -- the answers of the three tests, by whether a code came of them
  abbrev pub Tested : Option Code → Bool → Bool → Bool → Type 0
  Tested v rise all small = cond (not rise) (Some InvalidPartOrder) (cond (not all) (Some InvalidPart) (cond small (Some EntityTooSmall) None)) ≡ v

  pub accepts : (moment : ℕ) → refuses least u.parts list ≡ None → Accepts least u list moment
  accepts moment none = by (rises list) (has_all u.parts list) (is_small_list u.parts least list) refl refl refl none
    where
      by : (rise all small : Bool) → rises list ≡ rise → has_all u.parts list ≡ all → is_small_list u.parts least list ≡ small → Tested None rise all small → Accepts least u list moment
      by false all small e f g never = cc
      by true false small e f g never = cc
      by true true true e f g never = cc
      by true true false e f g none =
          let found = chooses u.parts list f in
          let bytes = bytes_are u.parts list found.0 found.1 in
          let etags = ap upload_etag (etags_are u.parts list found.0 found.1) in
          record {
            parts = found.0;
            rise = e;
            are = chosen_is u.parts list found.0 found.1;
            large = sym (sizes_are u.parts least list found.0 found.1) ∙ g;
            etag = etags;
            object = λ i. record { bytes = bytes i; etag = etags i; content_type = u.content_type; meta = u.meta; modified = moment };
            kept = λ i. record { key = u.key; list = list; etag = etags i; started = u.started; moment = moment };
          }
