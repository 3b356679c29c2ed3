-- What sections hold: the views of their readers (DWARF 5, 7.5.3 and 7.27; `.debug_str` is 7.26).
use Rattle.gimli_base.specs.declared.abbrev.DebugAbbrev.{DebugAbbrev}
use Rattle.gimli_base.specs.declared.addr.DebugAddr.{DebugAddr}
use Rattle.gimli_base.specs.declared.str.DebugStr.{DebugStr}
use Rattle.gimli_base.specs.View.{View}

-- `.debug_abbrev`
abbrev pub abbrev_content : {R : Type 0} → (R → View) → DebugAbbrev R → View
abbrev_content view s = view s.section

-- `.debug_addr`
abbrev pub addr_content : {R : Type 0} → (R → View) → DebugAddr R → View
addr_content view s = view s.section

-- `.debug_str`
abbrev pub str_content : {R : Type 0} → (R → View) → DebugStr R → View
str_content view s = view s.section
