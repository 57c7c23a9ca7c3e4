-- A JSON value as a tree of numbers, so that two different values have different trees.
use Rattle.std.specs.Prelude.{◌≡◌, refl}
use Rattle.std.proofs.Common.{ap}
use Rattle.std.specs.Coded.{Coded, coded_bool, coded_ℤ, coded_list, coded_ℕ}
use base.Stored.{Gv, gnil, gnum, gcons, num, coded_float}
use Rattle.serde_json.specs.Data.{Num, unsigned, negative, float, Data, null, boolean, number, string}
use Rattle.serde_json.specs.Data.{array, object, Items, no_items, item, Members, no_members, member}

abbrev head : Gv → Gv
head gnil = gnil
head (gnum n) = gnil
head (gcons a b) = a

abbrev tail : Gv → Gv
tail gnil = gnil
tail (gnum n) = gnil
tail (gcons a b) = b

abbrev of_num : Num → Gv
of_num (unsigned n) = gcons (gnum 0) (gnum n)
of_num (negative z) = gcons (gnum 1) (coded_ℤ.code z)
of_num (float x) = gcons (gnum 2) (coded_float.code x)

inj_num : (x y : Num) → of_num x ≡ of_num y → x ≡ y
inj_num (unsigned m) (unsigned n) p = ap (λ g. unsigned (num (tail g))) p
inj_num (negative a) (negative b) p = ap negative (coded_ℤ.inj a b (ap tail p))
inj_num (float x) (float y) p = ap float (coded_float.inj x y (ap tail p))
inj_num _ _ p = cc

abbrev coded_num : Coded Num
coded_num = record { code = of_num; inj = inj_num }

abbrev mutual
  pub of_data : Data → Gv
  of_data null = gcons (gnum 0) gnil
  of_data (boolean b) = gcons (gnum 1) (coded_bool.code b)
  of_data (number n) = gcons (gnum 2) (of_num n)
  of_data (string s) = gcons (gnum 3) ((coded_list coded_ℕ).code s)
  of_data (array ds) = gcons (gnum 4) (of_items ds)
  of_data (object ms) = gcons (gnum 5) (of_members ms)

  pub of_items : Items → Gv
  of_items no_items = gnil
  of_items (item d ds) = gcons (of_data d) (of_items ds)

  pub of_members : Members → Gv
  of_members no_members = gnil
  of_members (member k d ms) = gcons ((coded_list coded_ℕ).code k) (gcons (of_data d) (of_members ms))

mutual
  pub inj_data : (x y : Data) → of_data x ≡ of_data y → x ≡ y
  inj_data null null p = refl
  inj_data (boolean b) (boolean c) p = ap boolean (coded_bool.inj b c (ap tail p))
  inj_data (number m) (number n) p = ap number (inj_num m n (ap tail p))
  inj_data (string s) (string t) p = ap string ((coded_list coded_ℕ).inj s t (ap tail p))
  inj_data (array ds) (array es) p = ap array (inj_items ds es (ap tail p))
  inj_data (object ms) (object ns) p = ap object (inj_members ms ns (ap tail p))
  inj_data _ _ p = cc

  inj_items : (x y : Items) → of_items x ≡ of_items y → x ≡ y
  inj_items no_items no_items p = refl
  inj_items (item d ds) (item e es) p =
      λ i. item (inj_data d e (ap head p) i) (inj_items ds es (ap tail p) i)
  inj_items _ _ p = cc

  inj_members : (x y : Members) → of_members x ≡ of_members y → x ≡ y
  inj_members no_members no_members p = refl
  inj_members (member k d ms) (member l e ns) p =
      λ i. member ((coded_list coded_ℕ).inj k l (ap head p) i) (inj_data d e (ap (λ g. head (tail g)) p) i)
      (inj_members ms ns (ap (λ g. tail (tail g)) p) i)
  inj_members _ _ p = cc

abbrev pub coded_data : Coded Data
coded_data = record { code = of_data; inj = inj_data }
