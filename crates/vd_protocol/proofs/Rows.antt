-- One more host: the lists that loops over hosts build.
use Rattle.std.proofs.Common.{◌≡◌, ℕ, ◌+◌, Bool, true, false, cond, List, [], ◌∷◌, ◌++◌, map, refl, sym, ap, ◌∙◌, arith}
use Rattle.std.specs.Prelude.{filter}
use Rattle.std.specs.List.{range_with_len, flat_map}
use Rattle.std.proofs.lemmas.List.Elements.{filter-append}
use Rattle.std.proofs.lemmas.Grind.{flat_map-append}
use Rattle.std.proofs.lemmas.List.{map-append, append-nil, append_assoc}
use Rattle.vd_base.specs.declared.ids.HostId.{HostId}
use Rattle.vd_base.specs.HostSets.{host, hosts}
use Rattle.vd_formula.proofs.Front.{range_more}

-- the elements that pass, each changed, of one more number
pub passing_more : {A B : Type 0} (make : ℕ → A) (test : A → Bool) (change : A → B) (n : ℕ) → map change (filter test (map make (range_with_len 0 (n + 1)))) ≡ map change (filter test (map make (range_with_len 0 n))) ++ cond (test (make n)) (change (make n) ∷ []) []
passing_more make test change n =
    ap (λ ns. map change (filter test (map make ns))) (range_more 0 n n (omega arith))
    ∙ ap (λ xs. map change (filter test xs)) (map-append make (range_with_len 0 n) (n ∷ []))
    ∙ ap (map change) (filter-append test (map make (range_with_len 0 n)) (make n ∷ []))
    ∙ map-append change (filter test (map make (range_with_len 0 n))) (cond (test (make n)) (make n ∷ []) [])
    ∙ ap (λ xs. map change (filter test (map make (range_with_len 0 n))) ++ xs) (last (test (make n)))
  where
    last : (b : Bool) → map change (cond b (make n ∷ []) []) ≡ cond b (change (make n) ∷ []) []
    last true = refl
    last false = refl

hosts_more : (n : ℕ) → hosts (n + 1) ≡ hosts n ++ host n ∷ []
hosts_more n = ap (map host) (range_more 0 n n (omega arith)) ∙ map-append host (range_with_len 0 n) (n ∷ [])

pub rows_more : {B : Type 0} (row : HostId → List B) (n : ℕ) → flat_map row (hosts (n + 1)) ≡ flat_map row (hosts n) ++ row (host n)
rows_more row n = ap (flat_map row) (hosts_more n) ∙ flat_map-append row (hosts n) (host n ∷ []) ∙ ap (λ xs. flat_map row (hosts n) ++ xs) (append-nil (row (host n)))

pub changed_more : {B : Type 0} (change : HostId → B) (n : ℕ) → map change (hosts (n + 1)) ≡ map change (hosts n) ++ change (host n) ∷ []
changed_more change n = ap (map change) (hosts_more n) ∙ map-append change (hosts n) (host n ∷ [])

-- a list that is extended by what one more host gives
pub extended : {B : Type 0} (old start parts longer row : List B) → old ≡ start ++ parts → longer ≡ parts ++ row → old ++ row ≡ start ++ longer
extended old start parts longer row is more = ap (λ xs. xs ++ row) is ∙ append_assoc start parts row ∙ ap (λ xs. start ++ xs) (sym more)

-- the same where it gives something only if it passes
pub extended_if : {B : Type 0} (old start parts longer : List B) (passes : Bool) (x : B) → old ≡ start ++ parts → longer ≡ parts ++ cond passes (x ∷ []) [] → passes ≡ true → old ++ x ∷ [] ≡ start ++ longer
extended_if old start parts longer passes x is more yes_passes =
    extended old start parts longer (x ∷ []) is (more ∙ ap (λ b. parts ++ cond b (x ∷ []) []) yes_passes)

pub kept_if : {B : Type 0} (old start parts longer : List B) (passes : Bool) (x : B) → old ≡ start ++ parts → longer ≡ parts ++ cond passes (x ∷ []) [] → passes ≡ false → old ≡ start ++ longer
kept_if old start parts longer passes x is more fails =
    is ∙ ap (λ xs. start ++ xs) (sym (append-nil parts) ∙ sym (more ∙ ap (λ b. parts ++ cond b (x ∷ []) []) fails))
