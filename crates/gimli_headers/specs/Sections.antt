-- What the sections of units hold: the views of their readers (DWARF 5, 7.5).
use Rattle.gimli_base.specs.View.{View}
use Rattle.gimli_headers.specs.declared.debug_info.DebugInfo.{DebugInfo}
use Rattle.gimli_headers.specs.declared.debug_types.DebugTypes.{DebugTypes}

-- `.debug_info`
abbrev pub info_content : {R : Type 0} → (R → View) → DebugInfo R → View
info_content view s = view s.section

-- `.debug_types`
abbrev pub types_content : {R : Type 0} → (R → View) → DebugTypes R → View
types_content view s = view s.section
