-- Light and bold exchanged: on the calls themselves, for any accepted tables and whatever the lists held (document 02, P1).
use Rattle.std.specs.Prelude.{ℕ, suc, ◌≡◌, refl, Bool, true, false, List, [], ◌∷◌, map, eqb, length, Ok}
use Rattle.std.proofs.Common.{sym, ◌∙◌, ap}
use Rattle.matching.specs.Definitions.Nodes.{Unique}
use Rattle.matching.specs.Definitions.Links.{Link, exchange}
use Rattle.matching.proofs.Laws.Reordered.{reordered_length}
use Rattle.matching.proofs.Theorems.Exchange.{exchange_reordered, exchange_distances}
use Rattle.tables.specs.Definitions.Sizes.{list_size, counts_size}
use Rattle.tables.specs.Definitions.Tables.{nodes_in, Accepted}
use Rattle.tables.proofs.Laws.Accepted.{nodes_good}
use Rattle.contract.specs.Definitions.Answers.{code_of}
use Rattle.contract.specs.Definitions.Buffers.{lent, paired, links_of}
use Rattle.contract.specs.Definitions.Shapes.{Outcome, outcome}
use Rattle.contract.specs.Definitions.Requests.{bands_shape}
use Rattle.contract.specs.Definitions.Calls.{call, pair_call}
use Rattle.contract.specs.Definitions.Exchange.{listed, Exchanged}
use Rattle.contract.proofs.Laws.Exchange.{spare_exchanged, bands_exchanged, bands_wrong, bands_filled}
use Rattle.contract.proofs.Theorems.Pair.{pair_done, pair_links}

module _ (a b l k : List ℕ) (ha : Accepted a) (hb : Accepted b) (size-l : length l ≡ list_size) (size-k : length k ≡ list_size) where
  ua : Unique (nodes_in a)
  ua = (nodes_good a ha).unique

  ub : Unique (nodes_in b)
  ub = (nodes_good b hb).unique

  -- What Pair leaves, both ways.
  one : pair_call a b l ≡ outcome (Ok (length (links_of (lent a b l)))) (paired a b) []
  one = pair_done a b l ha hb size-l

  two : pair_call b a k ≡ outcome (Ok (length (links_of (lent b a k)))) (paired b a) []
  two = pair_done b a k hb ha size-k

  count : length (links_of (lent b a k)) ≡ length (links_of (lent a b l))
  count = sym (reordered_length (exchange_reordered (nodes_in a) (nodes_in b) ua ub)) ∙ map-length (links_of (lent a b l))
    where
      map-length : (J : List Link) → length (map exchange J) ≡ length J
      map-length [] = refl
      map-length (x ∷ J) = ap suc (map-length J)

  links_one : listed (pair_call a b l) ≡ links_of (lent a b l)
  links_one = pair_links a b l ha hb size-l

  links_two : listed (pair_call b a k) ≡ links_of (lent b a k)
  links_two = pair_links b a k hb ha size-k

  pub exchanged : Exchanged a b l k
  exchanged = record {
    value = ap (λ (o : Outcome). o.code) two ∙ ap (λ (n : ℕ). code_of (Ok n)) count ∙ sym (ap (λ (o : Outcome). o.code) one);
    links = rw (links_one, links_two) (exchange_reordered (nodes_in a) (nodes_in b) ua ub);
    distances = rw (links_one, links_two) (exchange_distances (nodes_in a) (nodes_in b) ua ub);
    spare = λ m n. rw (one, two) (spare_exchanged a b ha hb m n);
    bands = λ c. rw (one, two) (bands_alike c).0;
    counts = λ c. rw (one, two) (bands_alike c).1;
  }
    where
      bands_alike : (c : List ℕ) → ((call (bands_shape c) (paired b a)).code ≡ (call (bands_shape c) (paired a b)).code) × ((call (bands_shape c) (paired b a)).others ≡ (call (bands_shape c) (paired a b)).others)
      bands_alike c = go (eqb (length c) counts_size) refl
        where
          go : (t : Bool) → eqb (length c) counts_size ≡ t → ((call (bands_shape c) (paired b a)).code ≡ (call (bands_shape c) (paired a b)).code) × ((call (bands_shape c) (paired b a)).others ≡ (call (bands_shape c) (paired a b)).others)
          go true e =
              let p = bands_filled a b c ha hb e in
              let q = bands_filled b a c hb ha e in (
                ap (λ (o : Outcome). o.code) q ∙ sym (ap (λ (o : Outcome). o.code) p),
                ap (λ (o : Outcome). o.others) q ∙ ap (λ (r : List ℕ). r ∷ []) (bands_exchanged (nodes_in a) (nodes_in b) ua ub) ∙ sym (ap (λ (o : Outcome). o.others) p),
              )
          go false e = let p = bands_wrong a b c e in let q = bands_wrong b a c e in
              (ap (λ (o : Outcome). o.code) q ∙ sym (ap (λ (o : Outcome). o.code) p), ap (λ (o : Outcome). o.others) q ∙ sym (ap (λ (o : Outcome). o.others) p))
