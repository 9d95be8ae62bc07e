-- Pieces of metadata, one after the other.
use Rattle.std.proofs.Common.{◌≡◌, ℕ, suc, ◌+◌, ◌-◌, ◌<◌, ◌≤◌, Bool, true, false, not, cond, List, [], ◌∷◌, ◌++◌, Option, Some, None, refl, ap, sym, ◌∙◌, arith, append_assoc, append-nil}
use Rattle.std.specs.Prelude.{option_map, Result, Ok, Err, IfOk}
use Rattle.gate_base.specs.declared.page.Pair.{Pair}
use Rattle.http_wire.specs.Headers.{has_header}
use Rattle.http_answers.specs.Fields.{field}
use Rattle.swift_replies.specs.Fields.{meta_name, meta_by, meta_from, meta_in}

abbrev pub behind : List (List ℕ) → Option (List (List ℕ)) → Option (List (List ℕ))
behind pieces rest = option_map (λ others. pieces ++ others) rest

-- these pieces were read, up to an index
pub record HasRead (headers : List Pair) (pieces : List (List ℕ)) (index : ℕ) : Type 0 where
  pub within : index ≤ 11
  pub read : meta_in headers ≡ behind pieces (meta_from (11 - index) index headers)

whole : (rest : Option (List (List ℕ))) → rest ≡ behind [] rest
whole None = refl
whole (Some others) = refl

pub read_nothing : (headers : List Pair) → HasRead headers [] 0
read_nothing headers = record { within = omega arith; read = whole (meta_from 11 0 headers) }

step : (headers : List Pair) (index : ℕ) → index < 11
    → meta_from (11 - index) index headers ≡ meta_by (field (meta_name index) headers) (meta_from (11 - (index + 1)) (index + 1) headers)
unfolding meta_from
step headers index within =
    let e : 11 - index ≡ suc (11 - (index + 1)) = omega arith in
    ap (λ most. meta_from most index headers) e

one_more : (pieces : List (List ℕ)) (piece : List ℕ) (rest : Option (List (List ℕ))) → behind pieces (meta_by (Some (Some piece)) rest) ≡ behind (pieces ++ piece ∷ []) rest
one_more pieces piece None = refl
one_more pieces piece (Some others) = ap (λ all. Some all) (sym (append_assoc pieces (piece ∷ []) others))

pub read_more : (headers : List Pair) (pieces more : List (List ℕ)) (index : ℕ) (piece : List ℕ) → HasRead headers pieces index → index < 11
    → Some (Some piece) ≡ field (meta_name index) headers → more ≡ pieces ++ piece ∷ [] → HasRead headers more (index + 1)
read_more headers pieces more index piece done within found grown =
    rw grown (record {
      within = omega arith;
      read = done.read ∙ ap (behind pieces) (step headers index within)
          ∙ ap (λ given. behind pieces (meta_by given (meta_from (11 - (index + 1)) (index + 1) headers))) (sym found)
          ∙ one_more pieces piece (meta_from (11 - (index + 1)) (index + 1) headers);
    })

pub read_all : (headers : List Pair) (pieces : List (List ℕ)) (index : ℕ) → HasRead headers pieces index → index < 11
    → Some None ≡ field (meta_name index) headers → Some pieces ≡ meta_in headers
read_all headers pieces index done within found =
    sym (done.read ∙ ap (behind pieces) (step headers index within)
    ∙ ap (λ given. behind pieces (meta_by given (meta_from (11 - (index + 1)) (index + 1) headers))) (sym found)
    ∙ ap (λ all. Some all) (append-nil pieces))

pub read_twice : (headers : List Pair) (pieces : List (List ℕ)) (index : ℕ) → HasRead headers pieces index → index < 11
    → None ≡ field (meta_name index) headers → None ≡ meta_in headers
read_twice headers pieces index done within found =
    sym (done.read ∙ ap (behind pieces) (step headers index within)
    ∙ ap (λ given. behind pieces (meta_by given (meta_from (11 - (index + 1)) (index + 1) headers))) (sym found))

full : (headers : List Pair) (b : Bool) → has_header (meta_name 11) headers ≡ b → meta_from 0 11 headers ≡ cond b None (Some [])
unfolding meta_from
full headers b found = ap (λ t. cond t None (Some [])) found

read_too_many : (headers : List Pair) (pieces : List (List ℕ)) (index : ℕ) → HasRead headers pieces index → 11 ≤ index
    → has_header (meta_name 11) headers ≡ true → None ≡ meta_in headers
read_too_many headers pieces index done past found =
    let e : index ≡ 11 = omega (arith, done.within) in
    sym (done.read ∙ ap (λ i. behind pieces (meta_from (11 - i) i headers)) e ∙ ap (behind pieces) (full headers true found))

read_full : (headers : List Pair) (pieces : List (List ℕ)) (index : ℕ) → HasRead headers pieces index → 11 ≤ index
    → has_header (meta_name 11) headers ≡ false → Some pieces ≡ meta_in headers
read_full headers pieces index done past found =
    let e : index ≡ 11 = omega (arith, done.within) in
    sym (done.read ∙ ap (λ i. behind pieces (meta_from (11 - i) i headers)) e ∙ ap (behind pieces) (full headers false found)
    ∙ ap (λ all. Some all) (append-nil pieces))

-- all of the most that there may be, and whether there is one more
read_end : (headers : List Pair) (pieces : List (List ℕ)) (index : ℕ) (more : Bool) → HasRead headers pieces index → 11 ≤ index
    → has_header (meta_name 11) headers ≡ more → cond (not more) (Some pieces) None ≡ meta_in headers
read_end headers pieces index true done past found = read_too_many headers pieces index done past found
read_end headers pieces index false done past found = read_full headers pieces index done past found

-- the same of what asking for that answers
pub if_ok_end : {E : Type 0} (headers : List Pair) (pieces : List (List ℕ)) (index : ℕ) (lacks : Result Bool E) → HasRead headers pieces index → 11 ≤ index
    → IfOk lacks (λ b. b ≡ not (has_header (meta_name 11) headers)) → IfOk lacks (λ b. cond b (Some pieces) None ≡ meta_in headers)
if_ok_end headers pieces index (Ok b) done past found =
    ap (λ t. cond t (Some pieces) None) found ∙ read_end headers pieces index (has_header (meta_name 11) headers) done past refl
if_ok_end headers pieces index (Err fault) done past found = found
