pub mod DecimalValues
