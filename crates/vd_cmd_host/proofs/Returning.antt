-- The links that come back to a net.
use Rattle.std.proofs.Common.{arith, ◌≡◌, ◌<◌, ◌≤◌, ◌+◌, ◌⊎◌, ⊎_elim, ℕ, Bool, true, cond, IsTrue, List, [], ◌∷◌, ◌++◌, length, Option, Some, None, nat_lt, refl, sym, ap, subst, ◌∙◌, append_assoc, append-nil, add-one, lt-ltb, length-append}
use Rattle.std.specs.List.{AllByRecursion}
use Rattle.vd_outside.specs.Causes.{Rose}
use Rattle.vd_outside.specs.Link.{LinkView}
use Rattle.vd_outside.specs.Net.{HangsUp, NetView}
use Rattle.vd_engine.specs.Drives.{SessionView, Sessions}
use Rattle.vd_host_session.specs.Histories.{HandedBack, NoSession, NoneBack, OneBack}
use Rattle.vd_host_session.proofs.Front.{count_at, one_at}
use Rattle.vd_cmd_host.specs.Serving.{IsTold}

-- the links of the sessions with the first hosts, so many, came back
pub record CameBack (sessions : Sessions) (n : ℕ) (start now : NetView) : Type 0 where
  pub told : IsTrue now.told
  pub later : start.faults ≤ now.faults
  pub links : now.links ≡ start.links
  pub handed : List LinkView
  pub back : now.back ≡ start.back ++ handed
  pub counted : length handed ≡ count_at sessions n
  pub tell : AllByRecursion IsTold handed → (host : ℕ) (session : SessionView) → host < n → sessions host ≡ Some session → IsTrue session.link.told
  pub rose : (host : ℕ) (session : SessionView) → host < n → sessions host ≡ Some session → 0 < session.link.faults → Rose start.faults now.faults

pub rose_within : (a b c d : ℕ) → a ≤ b → Rose b c → c ≤ d → Rose a d
rose_within a b c d low rose high = omega (arith, low, rose, high)

none_zero : (o : Option SessionView) → o ≡ None → one_at o ≡ 0
none_zero o is = ap one_at is

count_more : (sessions : Sessions) (n : ℕ) → count_at sessions (n + 1) ≡ count_at sessions n + one_at (sessions n)
count_more sessions n = ap (count_at sessions) (add-one n)

same_or_less : (host count : ℕ) → host < count + 1 → (host ≡ count) ⊎ (host < count)
same_or_less host count less = grind arith

same_session : (a b : SessionView) → Some a ≡ Some b → a ≡ b
same_session a b e = cc

-- all but the last
earlier_tell : (links : List LinkView) (last : LinkView) → AllByRecursion IsTold (links ++ last ∷ []) → AllByRecursion IsTold links
earlier_tell [] last all = tt
earlier_tell (link ∷ links) last all = (all.0, earlier_tell links last all.1)

pub last_tells : (links : List LinkView) (last : LinkView) → AllByRecursion IsTold (links ++ last ∷ []) → IsTrue last.told
last_tells [] last all = all.0
last_tells (link ∷ links) last all = last_tells links last all.1

-- a net with room keeps the link that is handed back
pub keeps : (net now : NetView) (link : LinkView) → IsTrue net.told → length net.back < net.links → HangsUp link net now → now.back ≡ net.back ++ link ∷ []
keeps net now link told room hangs =
    let fits : nat_lt (length net.back) net.links ≡ true = lt-ltb (length net.back) net.links room in
    hangs.back told ∙ ap (λ (b : Bool). cond b (net.back ++ link ∷ []) net.back) fits

-- one more session, and what is known of it
one_more : (sessions : Sessions) (start net now : NetView) (n : ℕ) (session : SessionView) → CameBack sessions n start net → sessions n ≡ Some session → length start.back + count_at sessions (n + 1) ≤ start.links
    → HangsUp session.link net now → CameBack sessions (n + 1) start now
one_more sessions start net now n session rest some room hangs =
    let links = rest.links in
    let counted = rest.counted in
    let one = ap one_at some in
    let more = count_more sessions n in
    let long = ap (λ (l : List LinkView). length l) rest.back ∙ length-append start.back rest.handed in
    let kept = keeps net now session.link rest.told (omega (arith, links, counted, long, room, one, more)) hangs in
    let earlier = rest.later in
    let later = hangs.later in
    let size = length-append rest.handed (session.link ∷ []) in
    record {
      told = hangs.still_told rest.told;
      later = omega (arith, earlier, later);
      links = hangs.links rest.told ∙ rest.links;
      handed = rest.handed ++ session.link ∷ [];
      back = kept ∙ ap (λ (l : List LinkView). l ++ session.link ∷ []) rest.back ∙ append_assoc start.back rest.handed (session.link ∷ []);
      counted = omega (arith, size, counted, one, more);
      tell = λ all host other less is. ⊎_elim
          (λ (e : host ≡ n). subst (λ (s : SessionView). IsTrue s.link.told) (same_session session other (sym some ∙ sym (ap sessions e) ∙ is)) (last_tells rest.handed session.link all))
          (λ (l : host < n). rest.tell (earlier_tell rest.handed session.link all) host other l is)
          (same_or_less host n less);
      rose = λ host other less is failed. ⊎_elim
          (λ (e : host ≡ n).
          rose_within start.faults net.faults now.faults now.faults rest.later
          (hangs.link_failed (subst (λ (s : SessionView). 0 < s.link.faults) (same_session other session (sym is ∙ ap sessions e ∙ some)) failed)) (omega arith))
          (λ (l : host < n). (let before = rest.rose host other l is failed in rose_within start.faults start.faults net.faults now.faults (omega arith) before later))
          (same_or_less host n less);
    }

pub come_back : (sessions : Sessions) (start : NetView) {n : ℕ} {now : NetView} → HandedBack sessions start n now → IsTrue start.told → length start.back + count_at sessions n ≤ start.links → CameBack sessions n start now
come_back sessions start NoneBack told room = record {
  told = told;
  later = omega arith;
  links = refl;
  handed = [];
  back = sym (append-nil start.back);
  counted = refl;
  tell = λ all host other less is. absurd (omega (arith, less));
  rose = λ host other less is failed. absurd (omega (arith, less));
}
come_back sessions start (NoSession n now before none) told room =
    let zero = none_zero (sessions n) none in
    let more = count_more sessions n in
    let rest = come_back sessions start before told (omega (arith, room, more)) in
    let counted = rest.counted in
    record {
      told = rest.told;
      later = rest.later;
      links = rest.links;
      handed = rest.handed;
      back = rest.back;
      counted = omega (arith, zero, more, counted);
      tell = λ all host other less is. ⊎_elim
          (λ (e : host ≡ n). absurd (let no : Some other ≡ None = sym is ∙ ap sessions e ∙ none in cc))
          (λ (l : host < n). rest.tell all host other l is)
          (same_or_less host n less);
      rose = λ host other less is failed. ⊎_elim
          (λ (e : host ≡ n). absurd (let no : Some other ≡ None = sym is ∙ ap sessions e ∙ none in cc))
          (λ (l : host < n). rest.rose host other l is failed)
          (same_or_less host n less);
    }
come_back sessions start (OneBack n link received failed net now before some hangs) told room =
    let more = count_more sessions n in
    one_more sessions start net now n (record { link = link; received = received; failed = failed }) (come_back sessions start before told (omega (arith, room, more))) some room hangs
