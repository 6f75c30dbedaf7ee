-- What the parts of the check establish makes the links the join. Assumes nothing.
use Prim.Native.Nat.{ℕ, ◌≤◌, ◌<◌}
use mathlib.Core.Path.{◌≡◌, refl, sym}
use mathlib.Core.List.{List, []}
use native.Mathlib.Omega.{arith}
use native.Mathlib.Decide.{dec_lt}
use lib.IntN.{ℤ}
use lib.ListN.{get_or}
use Rattle.matching.specs.Definitions.Rows.{Sorts, Fits, spans_of, On, gap, key, node_in, nodes_of, link_in, links_in}
use Rattle.matching.specs.Definitions.Lists.{All}
use Rattle.matching.specs.declared.Master.{Master}
use Rattle.matching.specs.declared.Master.TheVariants.{A as master_a, B as master_b}
use Rattle.matching.specs.Definitions.Nodes.{each, Node, Unique}
use Rattle.matching.specs.Definitions.Pairs.{Pair, number_in, distance, pair, Before, nearer, lower_a, lower_b}
use Rattle.matching.specs.Definitions.Links.{Link, pair_of, used}
use Rattle.matching.specs.Definitions.Join.{join}
use Rattle.matching.specs.Definitions.Sizes.{number_range}
use Rattle.matching.proofs.Laws.Amounts.{Named}
use Rattle.matching.proofs.Laws.Sets.{in_all, gap_fits}
use Rattle.matching.proofs.Laws.Both.{of_all, of_in, of_unique}
use Rattle.matching.proofs.Theorems.Checked as checked
use Rattle.stability.specs.Links.{key_of}
use Rattle.stability.specs.Blocking.{Stable}
use Rattle.stability.specs.Limits.{Limited, limited, unlimited, Held}
use Rattle.stability.proofs.Laws.Links.{ordered_increasing}

-- Of two pairs that share a node, the one with the lesser key comes first: d and n are the one's distance and other number.
not_before : (m : Master) (p : Pair) (l : Link) → each p.b p.a m < number_range → number_in m p ≡ number_in m (pair_of l) → key_of m l ≤ key p.distance (each p.b p.a m) → ¬ Before p (pair_of l)
not_before master_a p l s e k (nearer d) = omega arith
not_before master_a p l s e k (lower_a d h) = omega arith
not_before master_a p l s e k (lower_b d f h) = omega arith
not_before master_b p l s e k (nearer d) = omega arith
not_before master_b p l s e k (lower_a d h) = omega arith
not_before master_b p l s e k (lower_b d f h) = omega arith

module _ (ns : List ℕ) (at : List (List ℤ)) (cs : List ℕ) (S : Sorts) (L : List (List ℕ)) (n : ℕ) (P : List (List ℕ)) (K : List ℕ)
    (fits : Fits ns at cs S) (small : (i : ℕ) → get_or ns i 0 < number_range) (held : Held ns at cs S L n P K) where
  abbrev nodes : Master → List Node
  nodes = nodes_of S ns at cs

  abbrev N : ℕ → ℕ → Node
  N t = node_in t ns at cs

  unique : (m : Master) → Unique (nodes m)
  unique m = of_unique S ns at cs m fits

  -- What stops the pair of rows i and j, of the sorts t and u.
  abbrev Shut : ℕ → ℕ → ℕ → ℕ → Type 0
  Shut t u i j = checked.Shut (nodes master_a) (nodes master_b) (unique master_a) (unique master_b) (links_in L n) (N t i) (N u j)

  -- A row's limit shuts the pairs that are not ahead of it.
  shut_by : (m : Master) (t u i j : ℕ) → On (spans_of S t) master_a i → On (spans_of S u) master_b j → Limited ns at cs S L n m (each i j m) (get_or K (each i j m) 0)
      → ¬ (key (gap at i at j) (get_or ns (each j i m) 0) < get_or K (each i j m) 0) → Shut t u i j
  unfolding pair distance gap
  shut_by master_a t u i j h g (limited x) z = record {
    side = master_a;
    spent = x.all;
    last = in_all _ L n (λ k l e. not_before master_a (pair (N t i) (N u j)) (link_in L k) (small j) (sym e) (omega (arith, x.keys k l (sym e))));
  }
  shut_by master_b t u i j h g (limited x) z = record {
    side = master_b;
    spent = x.all;
    last = in_all _ L n (λ k l e. not_before master_b (pair (N t i) (N u j)) (link_in L k) (small i) (sym e) (omega (arith, x.keys k l (sym e))));
  }
  shut_by m t u i j h g (unlimited e) z =
      absurd (z (omega (arith, e, small (each j i m), gap_fits at i at j ((fits.fit t).inside master_a i h) ((fits.fit u).inside master_b j g))))

  -- Pairs of one sort are shut.
  shut_pair : ((t : ℕ) → Stable ns at K K (spans_of S t).a (spans_of S t).b) → (t u i j : ℕ) → On (spans_of S t) master_a i → On (spans_of S u) master_b j → t ≡ u → Shut t u i j
  shut_pair stable t u i j h g e = go (dec_lt (key (gap at i at j) (get_or ns j 0)) (get_or K i 0))
    where
      go : Dec (key (gap at i at j) (get_or ns j 0) < get_or K i 0) → Shut t u i j
      go (no z) = shut_by master_a t u i j h g (held.limits t master_a i h) z
      go (yes z) = shut_by master_b t u i j h g (held.limits u master_b j g) (λ b. stable t i j h (rw (sym e) at g) (z, b))

  named : All (Named (nodes master_a) (nodes master_b) (unique master_a) (unique master_b)) (links_in L n)
  unfolding pair distance gap
  named = in_all _ L n (λ k h.
      let x = held.stands k h in
      let w = x.rows in
      record {
        v = N x.sort (get_or (get_or P k []) 0 0);
        w = N x.sort (get_or (get_or P k []) 1 0);
        in_a = of_in S ns at cs master_a x.sort _ x.one (w.on master_a);
        in_b = of_in S ns at cs master_b x.sort _ x.one (w.on master_b);
        alike = refl;
        is_pair = λ t. record { distance = w.apart t; a = sym (w.named master_a) t; b = sym (w.named master_b) t };
      })

  within : (m : Master) → All (λ v. used m (links_in L n) v.number ≤ v.capacity) (nodes m)
  within m = of_all S ns at cs m _ (λ t i l h. held.within t m i h)

  pub whole : ((t : ℕ) → Stable ns at K K (spans_of S t).a (spans_of S t).b) → links_in L n ≡ join (nodes master_a) (nodes master_b)
  whole stable = checked.links_shut (nodes master_a) (nodes master_b) (unique master_a) (unique master_b) (links_in L n) (record {
    named = named;
    ordered = ordered_increasing L n held.order;
    positive = in_all _ L n held.some;
    within = each_within;
  })
      (of_all S ns at cs master_a _ (λ t i l h. of_all S ns at cs master_b _ (λ u j k g e. shut_pair stable t u i j h g e)))
    where
      each_within : (m : Master) → All (λ v. used m (links_in L n) v.number ≤ v.capacity) (each (nodes master_a) (nodes master_b) m)
      each_within master_a = within master_a
      each_within master_b = within master_b
