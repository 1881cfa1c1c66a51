pub mod NativeBytes
