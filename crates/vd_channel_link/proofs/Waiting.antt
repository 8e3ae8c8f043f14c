-- Hosts that wait at a listener.
use Rattle.std.specs.List.{remove}
use Rattle.std.proofs.Common.{arith, ◌≡◌, ◌∙◌, ◌≤◌, ◌<◌, ℕ, suc, true, false, List, [], ◌∷◌, ◌++◌, length, slice_index_or, ap, sym, refl}
use Rattle.vd_outside.specs.Link.{LinkView}
use Rattle.vd_channel_crypto.specs.declared.records.Keys.{Keys}
use Rattle.vd_channel_link.specs.Courses.{AreWaiting, IsWaiting}
use Rattle.vd_channel_link.specs.Outgoing.{IsLinkSealed, Sealer}
use Rattle.vd_channel_link.specs.Seals.{IsAnswered}
use Rattle.vd_channel_link.specs.Waits.{Post, Waiter}
use Rattle.vd_channel_link.specs.declared.channel_net.answered.Answered.{Answered}
use Rattle.vd_channel_link.specs.declared.channel_net.seal.Seal.{Seal}

-- who was answered stays so behind later connections
pub answered_later : (seal : Seal) (tried later peer : ℕ) (keys : Keys × Keys) (came now : LinkView) → tried ≤ later
    → IsAnswered seal tried peer keys came now → IsAnswered seal later peer keys came now
answered_later seal tried later peer keys came now more is =
    let counted = is.is_counted in
    record {
      mine = is.mine;
      id = is.id;
      from = is.from;
      to = is.to;
      connection = is.connection;
      is_new = is.is_new;
      is_counted = omega (arith, more, counted);
      nonce = is.nonce;
      key = is.key;
      is_key = is.is_key;
      theirs = is.theirs;
      answered = is.answered;
    }

waits_later : {L : Type 0} (view : L → LinkView) (post : Post) (tried later : ℕ) (answered : Answered L) (one : Waiter) → tried ≤ later
    → IsWaiting view post tried answered one → IsWaiting view post later answered one
waits_later view post tried later answered one more is = record {
  link = is.link;
  untold = is.untold;
  answered = answered_later post.seal tried later post.peer (answered.ours, answered.theirs) one.came one.link more is.answered;
}

pub all_later : {L : Type 0} (view : L → LinkView) (post : Post) (tried later : ℕ) (answered : List (Answered L)) (waiting : List Waiter) → tried ≤ later
    → AreWaiting view post tried answered waiting → AreWaiting view post later answered waiting
all_later view post tried later [] [] more are = are
all_later view post tried later [] (one ∷ waiting) more are = are
all_later view post tried later (first ∷ others) [] more are = are
all_later view post tried later (first ∷ others) (one ∷ waiting) more are =
    (waits_later view post tried later first one more are.0, all_later view post tried later others waiting more are.1)

-- one more waits behind the others
pub one_more : {L : Type 0} (view : L → LinkView) (post : Post) (tried : ℕ) (answered : List (Answered L)) (waiting : List Waiter) (last : Answered L) (one : Waiter)
    → AreWaiting view post tried answered waiting → IsWaiting view post tried last one → AreWaiting view post tried (answered ++ last ∷ []) (waiting ++ one ∷ [])
one_more view post tried [] [] last one are is = (is, tt)
one_more view post tried [] (other ∷ waiting) last one are is = absurd are
one_more view post tried (first ∷ others) [] last one are is = absurd are
one_more view post tried (first ∷ others) (other ∷ waiting) last one are is = (are.0, one_more view post tried others waiting last one are.1 is)

-- the first of them
pub record First {L : Type 0} (view : L → LinkView) (post : Post) (tried : ℕ) (first : Answered L) (others : List (Answered L)) (waiting : List Waiter) : Type 0 where
  pub one : Waiter
  pub rest : List Waiter
  pub all : waiting ≡ one ∷ rest
  pub is : IsWaiting view post tried first one
  pub are : AreWaiting view post tried others rest

pub first_of_all : {L : Type 0} (view : L → LinkView) (post : Post) (tried : ℕ) (first : Answered L) (others : List (Answered L)) (waiting : List Waiter)
    → AreWaiting view post tried (first ∷ others) waiting → First view post tried first others waiting
first_of_all view post tried first others [] are = absurd are
first_of_all view post tried first others (one ∷ waiting) are = record { one = one; rest = waiting; all = refl; is = are.0; are = are.1 }

-- the last of them
pub record Last {L : Type 0} (view : L → LinkView) (post : Post) (tried : ℕ) (others : List (Answered L)) (last : Answered L) (waiting : List Waiter) : Type 0 where
  pub rest : List Waiter
  pub one : Waiter
  pub all : waiting ≡ rest ++ one ∷ []
  pub are : AreWaiting view post tried others rest
  pub is : IsWaiting view post tried last one

pub last_of_all : {L : Type 0} (view : L → LinkView) (post : Post) (tried : ℕ) (others : List (Answered L)) (last : Answered L) (waiting : List Waiter)
    → AreWaiting view post tried (others ++ last ∷ []) waiting → Last view post tried others last waiting
last_of_all view post tried [] last [] are = absurd are
last_of_all view post tried [] last (one ∷ []) are = record { rest = []; one = one; all = refl; are = tt; is = are.0 }
last_of_all view post tried [] last (one ∷ other ∷ waiting) are = absurd are.1
last_of_all view post tried (first ∷ others) last [] are = absurd are
last_of_all view post tried (first ∷ others) last (one ∷ waiting) are =
    let more = last_of_all view post tried others last waiting are.1 in
    record { rest = one ∷ more.rest; one = more.one; all = ap (λ (l : List Waiter). one ∷ l) more.all; are = (are.0, more.are); is = more.is }

pub as_many : {L : Type 0} (view : L → LinkView) (post : Post) (tried : ℕ) (answered : List (Answered L)) (waiting : List Waiter)
    → AreWaiting view post tried answered waiting → length answered ≡ length waiting
as_many view post tried [] [] are = refl
as_many view post tried [] (one ∷ waiting) are = absurd are
as_many view post tried (first ∷ others) [] are = absurd are
as_many view post tried (first ∷ others) (one ∷ waiting) are = ap suc (as_many view post tried others waiting are.1)

-- of a link that does not tell its bytes nothing is known to have gone out
pub untold_sealed : (by : Sealer) (link : LinkView) → link.told ≡ false → IsLinkSealed by link
untold_sealed by link untold told = absurd (let never : true ≡ false = sym told ∙ untold in cc)

-- the first of them is taken out
pub taken_out : {X : Type 0} (xs rest : List X) (x : X) → 0 < length xs → x ≡ slice_index_or xs 0 x → rest ≡ remove xs 0 → xs ≡ x ∷ rest
taken_out [] rest x some is more = absurd (omega (arith, some))
taken_out (y ∷ ys) rest x some is more =
    let one : y ≡ x = sym is in
    let others : ys ≡ rest = sym more in
    cc
