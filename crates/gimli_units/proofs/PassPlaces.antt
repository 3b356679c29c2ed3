-- Where the passing of a value is refused, it names a place of the view, if any (DWARF 5, 7.5.6).
use Rattle.std.specs.Prelude.{◌≡◌, ℕ, zero, suc, ◌+◌, ◌≤◌, ◌==◌, nat_le, nat_lt, if◌then◌else◌}
use Rattle.std.specs.Prelude.{Bool, true, false, length, Option, Some, None, Result, Ok, Err}
use Rattle.std.specs.List.{position}
use Rattle.std.proofs.Common.{refl, sym, ap, ◌∙◌, subst, arith, length-drop}
use Rattle.gimli_base.specs.declared.common.Encoding.{Encoding}
use Rattle.gimli_base.specs.declared.error.Error.{Error}
use Rattle.gimli_base.specs.declared.error.Error.TheVariants.{BadUnsignedLeb128, UnsupportedOffset}
use Rattle.gimli_base.specs.declared.error.Error.TheVariants.{UnknownForm}
use Rattle.gimli_base.specs.declared.common.ReaderOffsetId.{ReaderOffsetId}
use Rattle.gimli_base.specs.Offset.{offset_of}
use Rattle.gimli_base.specs.View.{View, cut, end_of_view}
use Rattle.gimli_base.specs.Reading.{Reads, ◌>>=◌, map_read, eof, byte_at, bytes_at, uint_at}
use Rattle.gimli_base.specs.Reading.{as_offset}
use Rattle.gimli_base.specs.Reading.{uint_offset_at, uleb_within, uleb_at, uleb16_at, split_at}
use Rattle.gimli_base.specs.Reading.{find_at, text_at, word_size_of, skip_at, skip_leb_at}
use Rattle.gimli_base.specs.View.{IsLater}
use Rattle.gimli_base.proofs.Later.{LeavesLater, IsLater-length, byte_at-later}
use Rattle.gimli_base.proofs.Later.{uleb16_at-later, split_at-later}
use Rattle.gimli_units.proofs.EntryReads.{none_later, uint_offset-later, uleb_offset-later}
use Rattle.gimli_units.proofs.EntryReads.{form_at-later}
use Rattle.gimli_units.specs.Layout.{Layout, byte, number, section_or, address, uleb, sleb, offset}
use Rattle.gimli_units.specs.Layout.{word_offset, reference, offset_leb, offset_leb_and, block}
use Rattle.gimli_units.specs.Layout.{block_leb, text, nothing, constant, layout_of}
use Rattle.gimli_units.specs.Form.{uleb_offset_at, form_within, form_at}
use Rattle.gimli_units.proofs.PassReads.{leb-later}
use Rattle.gimli_units.specs.Passing.{pass, pass_direct, pass_at, NamesPlaceOf}

-- each refusal of a read names a place of this view, if any
abbrev pub RefusesIn : {A : Type 0} → View → Reads A → Type 0
RefusesIn {A} v r = (e : Error) → ◌≡◌ {A = Reads A} (Err e) r → NamesPlaceOf v e

-- a later place of the view is one of its places
pub place_later : (v w : View) (e : Error) → IsLater 0 v w → NamesPlaceOf w e → NamesPlaceOf v e
place_later v w e l names n is =
    let at = names n is in
    let low : w.place ≡ v.place + l.count = ap (λ (u : View). u.place) l.is in
    let left : length w.bytes + 0 ≤ length v.bytes = IsLater-length 0 v w l in
    let fewer : length w.bytes + l.count
    ≤ length v.bytes = omega
    (arith, l.within, ap (λ (u : View). length u.bytes) l.is, length-drop l.count v.bytes) in
    (omega (arith, at.0, low), omega (arith, at.1, low, fewer))

pub place_here : (v : View) → NamesPlaceOf v (eof v)
place_here v n is =
    let id : ◌≡◌ {A = ReaderOffsetId} (record { 0 = v.place }) (record { 0 = n }) = cc in
    let same : v.place ≡ n = ap (λ (r : ReaderOffsetId). r.0) id in
    (omega (arith, same), omega (arith, same))

place_end : (v : View) → NamesPlaceOf v (eof (end_of_view v))
place_end v n is =
    let id : ◌≡◌ {A = ReaderOffsetId} (record { 0 = v.place + length v.bytes }) (record { 0 = n }) =
    cc in
    let same : v.place + length v.bytes ≡ n = ap (λ (r : ReaderOffsetId). r.0) id in
    (omega (arith, same), omega (arith, same))

ok_refuses : {A : Type 0} → (v : View) (p : A × View) → RefusesIn v (Ok p)
ok_refuses v p e is = absurd (cc)

err_refuses : {A : Type 0} → (v : View) (x : Error) → NamesPlaceOf v x → RefusesIn {A = A} v (Err x)
err_refuses {A} v x names e is =
    let same : x ≡ e = cc in
    subst (NamesPlaceOf v) same names

-- one read, and then another
then_refuses : {A B : Type 0} → (v : View) (r : Reads A) (f : A × View → Reads B)
    → LeavesLater 0 v r → RefusesIn v r
    → ((p : A × View) → RefusesIn p.1 (f p)) → RefusesIn v (r >>= f)
then_refuses v (Ok p) f later first second e is =
    place_later v p.1 e (later p.0 p.1 refl) (second p e is)
then_refuses v (Err x) f later first second e is = first e (let same : x ≡ e = cc in cc)

made_refuses : {A B : Type 0} → (v : View) (f : A → B) (r : Reads A) → RefusesIn v r
    → RefusesIn v (map_read f r)
made_refuses v f (Ok p) h e is = absurd (cc)
made_refuses v f (Err x) h e is = h e (let same : x ≡ e = cc in cc)

if_refuses : {A : Type 0} → (v : View) (t : Bool) (x y : Reads A) → RefusesIn v x → RefusesIn v y
    → RefusesIn v (if t then x else y)
if_refuses v true x y h k = h
if_refuses v false x y h k = k

skip_refuses : (n : ℕ) (v : View) → RefusesIn v (skip_at n v)
unfolding skip_at
skip_refuses n v = if_refuses v (nat_le n (length v.bytes)) _ _ (ok_refuses v (tt, cut n v))
    (err_refuses v (eof v) (place_here v))

byte_refuses : (v : View) → RefusesIn v (byte_at v)
unfolding byte_at
byte_refuses v = if_refuses v (nat_lt 0 (length v.bytes)) _ _ (ok_refuses v _)
    (err_refuses v (eof v) (place_here v))

bytes_refuses : (n : ℕ) (v : View) → RefusesIn v (bytes_at n v)
unfolding bytes_at
bytes_refuses n v = if_refuses v (nat_le n (length v.bytes)) _ _ (ok_refuses v _)
    (err_refuses v (eof v) (place_here v))

split_refuses : (n : ℕ) (v : View) → RefusesIn v (split_at n v)
unfolding split_at
split_refuses n v = if_refuses v (nat_le n (length v.bytes)) _ _ (ok_refuses v _)
    (err_refuses v (eof v) (place_here v))

uint_refuses : (n : ℕ) (v : View) → RefusesIn v (uint_at n v)
unfolding uint_at
uint_refuses n v = made_refuses v _ (bytes_at n v) (bytes_refuses n v)

-- a number that is no offset names no place
offset_refuses : (limit n : ℕ) (v : View) (e : Error) → Err e ≡ offset_of limit n → NamesPlaceOf v e
offset_refuses limit n v e is place at = absurd (by (nat_lt n limit) is)
  where
    by : (t : Bool) → ◌≡◌ {A = Result ℕ Error} (Err e) (if t then Ok n else Err UnsupportedOffset)
        → ⊥
    by true is = cc
    by false is = cc

as_offset_refuses : (limit : ℕ) (v : View) (r : Reads ℕ) → RefusesIn v r
    → RefusesIn v (as_offset limit r)
as_offset_refuses limit v (Err x) h e is = h e is
as_offset_refuses limit v (Ok p) h e is = by (offset_of limit p.0) refl is
  where
    by : (r : Result ℕ Error) → r ≡ offset_of limit p.0
        → ◌≡◌ {A = Reads ℕ} (Err e) (elim r [ Ok o ↦ Ok (o, p.1) | Err e ↦ Err e ])
        → NamesPlaceOf v e
    by (Ok o) same is = absurd (cc)
    by (Err x) same is =
        let one : x ≡ e = cc in
        offset_refuses limit p.0 v e (ap Err (sym one) ∙ same)

uint_offset_refuses : (limit n : ℕ) (v : View) → RefusesIn v (uint_offset_at limit n v)
uint_offset_refuses limit n v = as_offset_refuses limit v (uint_at n v) (uint_refuses n v)

-- a number that is too long names no place
long_refuses : {A : Type 0} → (v : View) → RefusesIn {A = A} v (Err BadUnsignedLeb128)
long_refuses v = err_refuses v BadUnsignedLeb128 (λ n is. absurd (cc))

uleb_within_refuses : (top n : ℕ) (v : View) → RefusesIn v (uleb_within top n v)
unfolding uleb_within
uleb_within_refuses top zero v =
    then_refuses v (byte_at v) _ (none_later 1 v _ (byte_at-later v)) (byte_refuses v)
    (λ p. if_refuses p.1 (nat_le p.0 top) _ _ (ok_refuses p.1 p) (long_refuses p.1))
uleb_within_refuses top (suc n) v =
    then_refuses v (byte_at v) _ (none_later 1 v _ (byte_at-later v)) (byte_refuses v)
    (λ p. if_refuses p.1 (nat_lt p.0 128) _ _ (ok_refuses p.1 p)
    (made_refuses p.1 _ (uleb_within top n p.1) (uleb_within_refuses top n p.1)))

uleb_offset_refuses : (limit : ℕ) (v : View) → RefusesIn v (uleb_offset_at limit v)
unfolding uleb_at
uleb_offset_refuses limit v = as_offset_refuses limit v (uleb_at v) (uleb_within_refuses 1 9 v)

uleb16_refuses : (v : View) → RefusesIn v (uleb16_at v)
unfolding uleb16_at
uleb16_refuses v = uleb_within_refuses 3 2 v

leb_refuses : (v : View) → RefusesIn v (skip_leb_at v)
unfolding skip_leb_at
leb_refuses v = by (position (λ b. nat_lt b 128) v.bytes)
  where
    by : (o : Option ℕ) → RefusesIn {A = Unit {0}} v
        (elim o [ Some n ↦ Ok (tt, cut (n + 1) v) | None ↦ Err (eof (end_of_view v)) ])
    by (Some n) = ok_refuses v _
    by None = err_refuses v (eof (end_of_view v)) (place_end v)

find_refuses : (v : View) (e : Error) → Err e ≡ find_at 0 v → NamesPlaceOf v e
unfolding find_at
find_refuses v e is = by (position (λ x. x == 0) v.bytes) is
  where
    by : (o : Option ℕ) → ◌≡◌ {A = Result ℕ Error} (Err e)
        (elim o [ Some n ↦ Ok n | None ↦ Err (eof v) ]) → NamesPlaceOf v e
    by (Some n) is = absurd (cc)
    by None is =
        let same : eof v ≡ e = cc in
        subst (NamesPlaceOf v) same (place_here v)

text_refuses : (v : View) → RefusesIn v (text_at v)
unfolding text_at
text_refuses v = found (find_at 0 v) (find_refuses v)
  where
    found : (r : Result ℕ Error) → ((e : Error) → Err e ≡ r → NamesPlaceOf v e)
        → RefusesIn v
        (elim r
        [ Ok n ↦ split_at n v >>= (λ p. map_read (λ _. p.0) (byte_at p.1)) | Err e ↦ Err e ])
    found (Ok n) none = then_refuses v (split_at n v) _ (none_later n v _ (split_at-later n v))
        (split_refuses n v)
        (λ p. made_refuses p.1 _ (byte_at p.1) (byte_refuses p.1))
    found (Err x) none = err_refuses v x (none x refl)

-- that many bytes, after their number
block_refuses : (v : View) (r : Reads ℕ) → LeavesLater 0 v r → RefusesIn v r
    → RefusesIn v (r >>= λ p. skip_at p.0 p.1)
block_refuses v r later h = then_refuses v r _ later h (λ p. skip_refuses p.0 p.1)

pass_refuses : (limit : ℕ) (e : Encoding) (l : Layout) (v : View) → RefusesIn v (pass limit e l v)
pass_refuses limit e (byte f) v = skip_refuses 1 v
pass_refuses limit e (number n f) v = skip_refuses n v
pass_refuses limit e (section_or n f) v = skip_refuses n v
pass_refuses limit e (address f) v = skip_refuses e.address_size v
pass_refuses limit e (offset n f) v = skip_refuses n v
pass_refuses limit e (word_offset f) v = skip_refuses (word_size_of e.format) v
pass_refuses limit e (reference f) v =
    skip_refuses (if e.version == 2 then e.address_size else word_size_of e.format) v
pass_refuses limit e (nothing x) v = skip_refuses 0 v
pass_refuses limit e (constant f) v = skip_refuses 0 v
pass_refuses limit e (uleb f) v = leb_refuses v
pass_refuses limit e (sleb f) v = leb_refuses v
pass_refuses limit e (offset_leb f) v = leb_refuses v
pass_refuses limit e (offset_leb_and n f) v =
    then_refuses v (skip_leb_at v) _ (leb-later v) (leb_refuses v) (λ p. skip_refuses n p.1)
pass_refuses limit e (block n f) v =
    block_refuses v (uint_offset_at limit n v) (uint_offset-later limit n v)
    (uint_offset_refuses limit n v)
pass_refuses limit e (block_leb f) v =
    block_refuses v (uleb_offset_at limit v) (uleb_offset-later limit v)
    (uleb_offset_refuses limit v)
pass_refuses limit e (text f) v = made_refuses v _ (text_at v) (text_refuses v)

direct_refuses : (limit : ℕ) (e : Encoding) (form : ℕ) (v : View)
    → RefusesIn v (pass_direct limit e form v)
unfolding pass_direct
direct_refuses limit e form v = by (layout_of form)
  where
    by : (o : Option Layout)
        → RefusesIn {A = Unit {0}} v
        (elim o [ Some l ↦ pass limit e l v | None ↦ Err (UnknownForm (record { 0 = form })) ])
    by (Some l) = pass_refuses limit e l v
    by None = err_refuses v _ (λ n is. absurd (cc))

chain_refuses : (n form : ℕ) (v : View) → RefusesIn v (form_within n form v)
unfolding form_within
chain_refuses zero form v =
    if_refuses v (form == 0x16) _ _ (err_refuses v (eof v) (place_here v)) (ok_refuses v (form, v))
chain_refuses (suc n) form v = if_refuses v (form == 0x16) _ _
    (then_refuses v (uleb16_at v) _ (none_later 1 v _ (uleb16_at-later v)) (uleb16_refuses v)
    (λ p. chain_refuses n p.0 p.1))
    (ok_refuses v (form, v))

-- where the passing of a value is refused, it names a place of the view, if any
pub pass_at_refuses : (limit : ℕ) (e : Encoding) (form : ℕ) (v : View)
    → RefusesIn v (pass_at limit e form v)
unfolding pass_at form_at
pass_at_refuses limit e form v =
    then_refuses v (form_at form v) _ (form_at-later form v) (chain_refuses (length v.bytes) form v)
    (λ p. direct_refuses limit e p.0 p.1)

-- and so does that of some bytes
pub skip_at_refuses : (n : ℕ) (v : View) → RefusesIn v (skip_at n v)
skip_at_refuses n v = skip_refuses n v
