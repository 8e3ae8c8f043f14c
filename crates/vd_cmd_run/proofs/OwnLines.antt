-- The command lines of the hosts, read.
use Rattle.std.proofs.Common.{◌≡◌, ◌≢◌, ◌⊎◌, inl, inr, ℕ, zero, suc, ◌+◌, ◌*◌, ◌-◌, ◌<◌, ◌≤◌, min, max, nat_eq, Bool, true, if◌then◌else◌, List, [], ◌∷◌, ◌++◌, map, length, slice_get, Some, None, refl, sym, ap, ◌∙◌, subst, arith}
use Rattle.std.specs.Prelude.{codes}
use Rattle.std.specs.Fmt.{decimal}
use Rattle.std.specs.List.{range_with_len}
use Rattle.std.proofs.lemmas.Bool.{cases_lt, cases_eq, ne_eqb, eq-eqb, lt-ltb, le-ltb}
use Rattle.std.proofs.lemmas.Fmt.{decimal_injective}
use Rattle.std.proofs.lemmas.List.{append_cancel_left, append_cancel_right}
use Rattle.std.proofs.lemmas.List.{length-append, length-map}
use Rattle.std.proofs.lemmas.List.FromFn.{length-range_with_len}
use Rattle.vd_base.specs.Limits.{most_hosts}
use Rattle.vd_cmd.specs.Commands.{most_port}
use Rattle.vd_cmd_plan.specs.Numbered.{file_name}
use Rattle.vd_cmd_run.specs.CommandLines.{address, meeting, meetings, host_words, command_lines}
use Rattle.vd_cmd_run.specs.HostLines.{place_among, PlaysHost, AreLinesOfHosts}

-- an item of a joined list
item_first : {A : Type 0} (xs ys : List A) (k : ℕ) → k < length xs → slice_get (xs ++ ys) k ≡ slice_get xs k
item_first [] ys k lt = absurd (omega (arith, lt))
item_first (x ∷ xs) ys zero lt = refl
item_first (x ∷ xs) ys (suc k) lt = item_first xs ys k (omega (arith, lt))

item_last : {A : Type 0} (xs : List A) (y : A) (k : ℕ) → k ≡ length xs → slice_get (xs ++ y ∷ []) k ≡ Some y
item_last [] y zero e = refl
item_last [] y (suc k) e = absurd (omega (arith, e))
item_last (x ∷ xs) y zero e = absurd (omega (arith, e))
item_last (x ∷ xs) y (suc k) e = item_last xs y k (omega (arith, e))

item_mapped : {A : Type 0} (f : ℕ → A) (from n k : ℕ) (x : A) → slice_get (map f (range_with_len from n)) k ≡ Some x → (k < n) × (f (from + k) ≡ x)
item_mapped f from zero k x at = cc at
item_mapped f from (suc n) zero x at = (omega arith, ap f (none_more from) ∙ some_is at)
  where
    none_more : (m : ℕ) → m + 0 ≡ m
    none_more m = omega arith

    some_is : Some (f from) ≡ Some x → f from ≡ x
    some_is e = cc e
item_mapped f from (suc n) (suc k) x at =
    let rest = item_mapped f (from + 1) n k x at in
    let e : from + suc k ≡ from + 1 + k = omega arith in
    (let lt = rest.0 in omega (arith, lt), ap f e ∙ rest.1)

module _ (port me : ℕ) where
  abbrev to_all : ℕ → List (List ℕ)
  to_all n = meetings port me n

  -- another host has one address, and the host itself none
  meeting_other : (peer : ℕ) → me ≢ peer → meeting port me peer ≡ address port (min me peer) (max me peer) ∷ []
  meeting_other peer other = ap (λ (b : Bool). if b then [] else address port (min me peer) (max me peer) ∷ []) (ne_eqb peer me (λ e. other (sym e)))

  meeting_own : meeting port me me ≡ []
  meeting_own = ap (λ (b : Bool). if b then [] else address port (min me me) (max me me) ∷ []) (same me)
    where
      same : (n : ℕ) → nat_eq n n ≡ true
      same n = eq-eqb n n refl

  few : (n : ℕ) → n ≤ me → length (to_all n) ≡ n
  few zero le = refl
  few (suc n) le =
      let before = few n (omega (arith, le)) in
      ap (λ (l : List (List ℕ)). length (to_all n ++ l)) (meeting_other n (λ e. absurd (omega (arith, le, e))))
      ∙ length-append (to_all n) (address port (min me n) (max me n) ∷ []) ∙ one_more (length (to_all n)) n before
    where
      one_more : (k n : ℕ) → k ≡ n → k + 1 ≡ suc n
      one_more k n e = omega (arith, e)

  many : (n : ℕ) → me < n → length (to_all n) + 1 ≡ n
  many zero lt = absurd (omega (arith, lt))
  many (suc n) lt = by (cases_eq me n) (λ low. many n low)
    where
      by : (me ≡ n) ⊎ (me ≡ n → ⊥) → (me < n → length (to_all n) + 1 ≡ n) → length (to_all n ++ meeting port me n) + 1 ≡ suc n
      by (inl e) earlier =
          let none : meeting port me n ≡ [] = subst (λ k. meeting port me k ≡ []) e meeting_own in
          let before = few n (omega (arith, e)) in
          let whole = ap (λ (l : List (List ℕ)). length (to_all n ++ l)) none ∙ length-append (to_all n) [] in
          omega (arith, before, whole)
      by (inr other) earlier =
          let before = earlier (omega (arith, lt, other)) in
          let whole = ap (λ (l : List (List ℕ)). length (to_all n ++ l)) (meeting_other n other) ∙ length-append (to_all n) (address port (min me n) (max me n) ∷ []) in
          omega (arith, before, whole)

  place_before : (peer : ℕ) → peer < me → place_among me peer ≡ peer
  place_before peer lt = ap (λ (b : Bool). if b then peer else peer - 1) (lt-ltb peer me lt)

  place_behind : (peer : ℕ) → me < peer → place_among me peer ≡ peer - 1
  place_behind peer lt = ap (λ (b : Bool). if b then peer else peer - 1) (le-ltb peer me (omega (arith, lt)))

  -- how many stand before it
  place_is : (peer : ℕ) → me ≢ peer → place_among me peer ≡ length (to_all peer)
  place_is peer other = by (cases_lt peer me)
    where
      by : (peer < me) ⊎ (me ≤ peer) → place_among me peer ≡ length (to_all peer)
      by (inl lt) = place_before peer lt ∙ sym (few peer (omega (arith, lt)))
      by (inr le) = let count = many peer (omega (arith, le, other)) in let place = place_behind peer (omega (arith, le, other)) in omega (arith, count, place)

  longer : (n peer : ℕ) → peer < n → me ≢ peer → length (to_all peer) < length (to_all n)
  longer zero peer lt other = absurd (omega (arith, lt))
  longer (suc n) peer lt other = by (cases_eq peer n) (λ low. longer n peer low other)
    where
      sizes : length (to_all (suc n)) ≡ length (to_all n) + length (meeting port me n)
      sizes = length-append (to_all n) (meeting port me n)

      by : (peer ≡ n) ⊎ (peer ≡ n → ⊥) → (peer < n → length (to_all peer) < length (to_all n)) → length (to_all peer) < length (to_all (suc n))
      by (inl e) earlier =
          let one : length (meeting port me n) ≡ 1 = ap length (meeting_other n (λ o. other (o ∙ sym e))) in
          let here : length (to_all peer) ≡ length (to_all n) = ap (λ k. length (to_all k)) e in
          let all = sizes in
          omega (arith, one, here, all)
      by (inr apart) earlier = let before = earlier (omega (arith, lt, apart)) in let all = sizes in omega (arith, before, all)

  there : (n peer : ℕ) → peer < n → me ≢ peer → slice_get (to_all n) (place_among me peer) ≡ Some (address port (min me peer) (max me peer))
  there zero peer lt other = absurd (omega (arith, lt))
  there (suc n) peer lt other = by (cases_eq peer n) (λ low. there n peer low other)
    where
      by : (peer ≡ n) ⊎ (peer ≡ n → ⊥) → (peer < n → slice_get (to_all n) (place_among me peer) ≡ Some (address port (min me peer) (max me peer)))
          → slice_get (to_all n ++ meeting port me n) (place_among me peer) ≡ Some (address port (min me peer) (max me peer))
      by (inl e) earlier =
          ap (λ (l : List (List ℕ)). slice_get (to_all n ++ l) (place_among me peer)) (subst (λ k. meeting port me k ≡ address port (min me peer) (max me peer) ∷ []) e (meeting_other peer other))
          ∙ item_last (to_all n) (address port (min me peer) (max me peer)) (place_among me peer) (place_is peer other ∙ ap (λ k. length (to_all k)) e)
      by (inr apart) earlier =
          let low : peer < n = omega (arith, lt, apart) in
          item_first (to_all n) (meeting port me n) (place_among me peer) (subst (λ k. k < length (to_all n)) (sym (place_is peer other)) (longer n peer low other)) ∙ earlier low

module _ (prefix inputs : List ℕ) (port hosts : ℕ) (small : port ≤ most_port) (few_hosts : hosts ≤ most_hosts) where
  abbrev meets : ℕ → ℕ → List ℕ
  meets a b = address port (min a b) (max a b)

  plays_host : (h : ℕ) → h < hosts → PlaysHost prefix inputs hosts meets h (host_words prefix inputs port hosts h)
  plays_host h lt =
      record {
        words = record { program = file_name prefix h (codes ".host"); inputs = inputs; deal = file_name prefix h (codes ".deal"); addresses = meetings port h hosts; limit = None };
        read = refl;
        program = refl;
        inputs_are = refl;
        deal = refl;
        unlimited = refl;
        peers = many port h hosts lt;
        there = λ peer low other. there port h hosts peer low other;
      }

  pub lines_are : AreLinesOfHosts prefix inputs port hosts (command_lines prefix inputs port hosts)
  lines_are =
      record {
        all = length-map (range_with_len 0 hosts) (host_words prefix inputs port hosts) ∙ length-range_with_len 0 hosts;
        meets = meets;
        local = λ a b la lb. (port + (4 * min a b + max a b), omega arith, omega (arith, small, few_hosts, la, lb), refl);
        one = λ a b. swapped a b;
        two = λ a b c d ab bh cd dh e. apart a b c d ab bh cd dh e;
        plays = λ h line at. let found = item_mapped (host_words prefix inputs port hosts) 0 hosts h line at in subst (λ (l : List (List ℕ)). PlaysHost prefix inputs hosts meets h l) (from_zero h line found.1) (plays_host h found.0);
        own = λ ending j k lj lk e.
            decimal_injective j k (omega (arith, lj, few_hosts)) (omega (arith, lk, few_hosts))
            (append_cancel_right (decimal j) (decimal k) ending (append_cancel_left (codes ".") (decimal j ++ ending) (decimal k ++ ending) (append_cancel_left prefix (codes "." ++ (decimal j ++ ending)) (codes "." ++ (decimal k ++ ending)) e)));
      }
    where
      swapped : (a b : ℕ) → meets a b ≡ meets b a
      swapped a b =
          let low : min a b ≡ min b a = omega arith in
          let high : max a b ≡ max b a = omega arith in
          ap (λ k. address port k (max a b)) low ∙ ap (λ k. address port (min b a) k) high

      from_zero : (h : ℕ) (line : List (List ℕ)) → host_words prefix inputs port hosts (0 + h) ≡ line → host_words prefix inputs port hosts h ≡ line
      from_zero h line e = ap (host_words prefix inputs port hosts) (zero_is h) ∙ e
        where
          zero_is : (n : ℕ) → n ≡ 0 + n
          zero_is n = omega arith

      apart : (a b c d : ℕ) → a < b → b < hosts → c < d → d < hosts → meets a b ≡ meets c d → (a ≡ c) × (b ≡ d)
      apart a b c d ab bh cd dh e =
          let numbers : port + (4 * min a b + max a b) ≡ port + (4 * min c d + max c d) =
          decimal_injective (port + (4 * min a b + max a b)) (port + (4 * min c d + max c d)) (omega (arith, small, few_hosts, ab, bh)) (omega (arith, small, few_hosts, cd, dh))
          (append_cancel_left (codes "127.0.0.1:") (decimal (port + (4 * min a b + max a b))) (decimal (port + (4 * min c d + max c d))) e) in
          let first : a ≡ c = omega (arith, numbers, few_hosts, ab, bh, cd, dh) in
          let second : b ≡ d = omega (arith, numbers, first, ab, cd) in
          (first, second)
